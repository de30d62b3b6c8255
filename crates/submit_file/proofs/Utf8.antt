-- What is cut out of a UTF-8 text at ASCII bytes is UTF-8.
use Rattle.std.proofs.Common.{◌≡◌, ℕ, zero, suc, ◌+◌, ◌<◌, ◌≤◌, ◌-◌, Bool, true, false, cond, not, ◌&&◌, ◌||◌, nat_eq, nat_lt, List, [], ◌∷◌, ◌++◌, length, take, drop, get_or, Option, Some, None, refl, sym, ap, subst, ◌∙◌, arith, reverse, ⊎_elim}
use Rattle.std.proofs.lemmas.Bool.{cases_Bool, false≢true, eqb-true}
use Rattle.std.proofs.lemmas.Grind.{common_steps}
use Rattle.std.proofs.lemmas.List.{reverse-reverse, reverse-append}
use Rattle.std.proofs.lemmas.List.Splits.{slice_split_none, slice_split_first}
use Rattle.std.proofs.lemmas.Option.{get_or_from_slice_get, slice_get_within}
use Rattle.std.proofs.lemmas.Str.{IsUtf8-append, IsUtf8-take, IsUtf8-drop, IsCharBoundary-before_ascii, IsCharBoundary-after_ascii}
use Rattle.std.proofs.lemmas.List.Elements.{All-from_get_or}
use Rattle.std.proofs.lemmas.List.Sums.{take_while-cons, fails_before_first, passes_at_first}
use Rattle.std.specs.List.{All, AllByRecursion, position_or_len, slice_get, slice_split}
use Rattle.std.specs.Str.{IsUtf8}
use Rattle.std.specs.Str.Lines.{lines, lines_of_parts, strip_carriage_return}
use Rattle.submit_file.specs.Lines.{Statement, is_blank, trim_start, is_the_byte, is_comment_line, is_continued, front, statements, joined}
use Rattle.submit_file.specs.Forms.{Saying, Silent, Assigns, Queues, Wrong, trimmed, before_equals, name_before, assigned_value, is_assigned_name, is_assignment, Form, forms, first_form, line_says}

-- up to an ASCII byte, and after it
pub utf8_before : (bs : List ℕ) (i c : ℕ) → IsUtf8 bs → i < length bs → get_or bs i 0 ≡ c → c < 128 → IsUtf8 (take i bs)
utf8_before bs i c u lt e low = IsUtf8-take bs i u (IsCharBoundary-before_ascii bs i lt (omega (arith, e)))

pub utf8_behind : (bs : List ℕ) (i c : ℕ) → IsUtf8 bs → i < length bs → get_or bs i 0 ≡ c → c < 128 → IsUtf8 (drop (i + 1) bs)
utf8_behind bs i c u lt e low = IsUtf8-drop bs (i + 1) u (IsCharBoundary-after_ascii bs i u lt (omega (arith, e)))

blank_low : (b : ℕ) → is_blank b ≡ true → b < 128
blank_low b h =
    ⊎_elim
    (λ (yes : nat_eq b 32 ≡ true). let e = eqb-true b 32 yes in omega (arith, e))
    (λ (other : nat_eq b 32 ≡ false). let tab : nat_eq b 9 ≡ true = ap (λ (x : Bool). x || nat_eq b 9) (sym other) ∙ h in let e = eqb-true b 9 tab in omega (arith, e))
    (cases_Bool (nat_eq b 32))

-- Blanks at the ends.
utf8_trim_start : (bs : List ℕ) → IsUtf8 bs → IsUtf8 (trim_start bs)
utf8_trim_start [] u = u
utf8_trim_start (b ∷ bs) u =
    ⊎_elim
    (λ (yes : is_blank b ≡ true). rw yes (utf8_trim_start bs (utf8_behind (b ∷ bs) 0 b u (omega arith) refl (blank_low b yes))))
    (λ (other : is_blank b ≡ false). rw other u)
    (cases_Bool (is_blank b))

reversed_cons : (b : ℕ) (bs : List ℕ) → reverse (b ∷ bs) ≡ reverse bs ++ b ∷ []
reversed_cons b bs = reverse-append (b ∷ []) bs

take_front : (xs ys : List ℕ) → take (length xs) (xs ++ ys) ≡ xs
take_front [] ys = refl
take_front (x ∷ xs) ys = ap (λ (zs : List ℕ). x ∷ zs) (take_front xs ys)

get_seam : (xs ys : List ℕ) (y : ℕ) → get_or (xs ++ y ∷ ys) (length xs) 0 ≡ y
get_seam [] ys y = refl
get_seam (x ∷ xs) ys y = get_seam xs ys y

within_seam : (xs ys : List ℕ) (y : ℕ) → length xs < length (xs ++ y ∷ ys)
within_seam [] ys y = omega arith
within_seam (x ∷ xs) ys y = let below = within_seam xs ys y in omega arith

utf8_less_last : (xs : List ℕ) (b : ℕ) → IsUtf8 (xs ++ b ∷ []) → b < 128 → IsUtf8 xs
utf8_less_last xs b u low = subst IsUtf8 (take_front xs (b ∷ [])) (utf8_before (xs ++ b ∷ []) (length xs) b u (within_seam xs [] b) (get_seam xs [] b) low)

utf8_trim_end : (bs : List ℕ) → IsUtf8 (reverse bs) → IsUtf8 (reverse (trim_start bs))
utf8_trim_end [] u = u
utf8_trim_end (b ∷ bs) u =
    ⊎_elim
    (λ (yes : is_blank b ≡ true). rw yes (utf8_trim_end bs (utf8_less_last (reverse bs) b (subst IsUtf8 (reversed_cons b bs) u) (blank_low b yes))))
    (λ (other : is_blank b ≡ false). rw other u)
    (cases_Bool (is_blank b))

utf8_trimmed : (bs : List ℕ) → IsUtf8 bs → IsUtf8 (trimmed bs)
utf8_trimmed bs u = utf8_trim_end (reverse (trim_start bs)) (subst IsUtf8 (sym (reverse-reverse (trim_start bs))) (utf8_trim_start bs u))

both_left : (a b : Bool) → (a && b) ≡ true → a ≡ true
both_left true b h = refl
both_left false b h = h

-- What is before the first equals sign, and after it.
abbrev no_equals : ℕ → Bool
no_equals b = not (nat_eq b 61)

cut_equals : (line : List ℕ) → length (before_equals line) < length line → get_or line (length (before_equals line)) 0 ≡ 61
cut_equals [] lt = absurd (omega arith)
cut_equals (b ∷ bs) lt =
    ⊎_elim
    (λ (yes : nat_eq b 61 ≡ true).
    let none : before_equals (b ∷ bs) ≡ [] = take_while-cons no_equals b bs ∙ ap (λ (x : Bool). cond (not x) (b ∷ before_equals bs) []) yes in
    ap (λ (xs : List ℕ). get_or (b ∷ bs) (length xs) 0) none ∙ eqb-true b 61 yes)
    (λ (other : nat_eq b 61 ≡ false).
    let more : before_equals (b ∷ bs) ≡ b ∷ before_equals bs = take_while-cons no_equals b bs ∙ ap (λ (x : Bool). cond (not x) (b ∷ before_equals bs) []) other in
    let long = ap length more in
    ap (λ (xs : List ℕ). get_or (b ∷ bs) (length xs) 0) more ∙ cut_equals bs (omega (arith, lt, long)))
    (cases_Bool (nat_eq b 61))

front_equals : (line : List ℕ) → take (length (before_equals line)) line ≡ before_equals line
front_equals [] = refl
front_equals (b ∷ bs) =
    subst (λ (xs : List ℕ). take (length xs) (b ∷ bs) ≡ xs) (sym (take_while-cons no_equals b bs))
    (⊎_elim
    (λ (yes : nat_eq b 61 ≡ true). rw yes refl)
    (λ (other : nat_eq b 61 ≡ false). rw other (ap (λ (xs : List ℕ). b ∷ xs) (front_equals bs)))
    (cases_Bool (nat_eq b 61)))

-- What a line says.
abbrev pub IsText : Saying → Type 0
IsText Silent = Unit {0}
IsText (Assigns name value) = IsUtf8 name × IsUtf8 value
IsText Queues = Unit {0}
IsText (Wrong fault) = Unit {0}

assigned_text : (line : List ℕ) → IsUtf8 line → is_assignment line ≡ true → IsText (Assigns (name_before line) (assigned_value line))
assigned_text line u is =
    let n = length (before_equals line) in
    let inside = both_left (nat_lt n (length line)) (is_assigned_name (name_before line)) is in
    let lt : n < length line = grind (arith, inside) in
    let at = cut_equals line lt in (
      utf8_trimmed (before_equals line) (subst IsUtf8 (front_equals line) (utf8_before line n 61 u lt at (omega arith))),
      utf8_trimmed (drop (n + 1) line) (utf8_behind line n 61 u lt at (omega arith)),
    )

either : (b : Bool) (x y : Saying) → (b ≡ true → IsText x) → IsText y → IsText (cond b x y)
either true x y p q = p refl
either false x y p q = q

form_text : (forms : List Form) (line : List ℕ) → AllByRecursion (λ (f : Form). f.looks line ≡ true → IsText (f.says line)) forms → IsText (first_form forms line)
form_text [] line all = tt
form_text (f ∷ others) line (here, all) = either (f.looks line) (f.says line) (first_form others line) here (form_text others line all)

pub line_text : (queued : Bool) (text : List ℕ) → IsUtf8 text → IsText (line_says queued text)
unfolding line_says
line_text queued text u =
    let line = trim_start text in
    form_text (forms queued) line ((λ _. tt), ((λ _. tt), ((λ _. tt), ((λ _. tt), ((λ _. tt), (assigned_text line (utf8_trim_start text u), tt))))))

-- Joined lines.
abbrev pub AreTexts : List Statement → Type 0
AreTexts ss = AllByRecursion (λ (s : Statement). IsUtf8 s.text) ss

last_is : (c : ℕ) (o : Option ℕ) → is_the_byte c o ≡ true → o ≡ Some c
last_is c None h = absurd (false≢true h)
last_is c (Some b) h = ap (λ (x : ℕ). Some x) (eqb-true b c h)

utf8_front : (text : List ℕ) → IsUtf8 text → is_continued text ≡ true → IsUtf8 (front text)
unfolding is_continued
utf8_front text u h =
    let at : slice_get text (length text - 1) ≡ Some 92 = last_is 92 _ (both_left _ (not (is_comment_line text)) h) in
    utf8_before text (length text - 1) 92 u (slice_get_within text (length text - 1) 92 at) (get_or_from_slice_get text (length text - 1) 92 0 at) (omega arith)

utf8_last : (n : ℕ) (text : List ℕ) → IsUtf8 text → AreTexts (record { number = n; text = cond (is_continued text) (front text) text } ∷ [])
utf8_last n text u =
    ⊎_elim
    (λ (yes : is_continued text ≡ true). rw yes (utf8_front text u yes, tt))
    (λ (other : is_continued text ≡ false). rw other (u, tt))
    (cases_Bool (is_continued text))

utf8_joined : (n k : ℕ) (text : List ℕ) (ls : List (List ℕ)) → IsUtf8 text → AllByRecursion IsUtf8 ls → AreTexts (joined n k text ls)
utf8_joined n k text [] u all = utf8_last n text u
utf8_joined n k text (below ∷ ls) u (v, all) =
    ⊎_elim
    (λ (yes : is_continued text ≡ true). rw yes (utf8_joined n (k + 1) (front text ++ below) ls (IsUtf8-append (front text) below (utf8_front text u yes) v) all))
    (λ (other : is_continued text ≡ false). rw other (u, utf8_joined k (k + 1) below ls v all))
    (cases_Bool (is_continued text))

utf8_statements : (n : ℕ) (ls : List (List ℕ)) → AllByRecursion IsUtf8 ls → AreTexts (statements n ls)
utf8_statements n [] all = tt
utf8_statements n (l ∷ ls) (u, all) = utf8_joined n (n + 1) l ls u all

-- Lines.
utf8_stripped : (l : List ℕ) → IsUtf8 l → IsUtf8 (strip_carriage_return l)
utf8_stripped [] u = u
utf8_stripped (b ∷ bs) u =
    let last = length (b ∷ bs) - 1 in
    ⊎_elim
    (λ (yes : nat_eq (get_or (b ∷ bs) last 0) 13 ≡ true). rw yes (utf8_before (b ∷ bs) last 13 u (omega arith) (eqb-true _ 13 yes) (omega arith)))
    (λ (other : nat_eq (get_or (b ∷ bs) last 0) 13 ≡ false). rw other u)
    (cases_Bool (nat_eq (get_or (b ∷ bs) last 0) 13))

utf8_lines : (parts : List (List ℕ)) → AllByRecursion IsUtf8 parts → AllByRecursion IsUtf8 (lines_of_parts parts)
utf8_lines [] all = tt
utf8_lines (x ∷ []) (u, all) = ⊎_elim (λ (yes : nat_eq (length x) 0 ≡ true). rw yes tt) (λ (other : nat_eq (length x) 0 ≡ false). rw other (u, tt)) (cases_Bool (nat_eq (length x) 0))
utf8_lines (x ∷ y ∷ more) (u, all) = (utf8_stripped x u, utf8_lines (y ∷ more) all)

abbrev is_feed : ℕ → Bool
is_feed b = nat_eq b 10

none_passes : (bs : List ℕ) → nat_lt (position_or_len is_feed bs) (length bs) ≡ false → All (λ b. is_feed b ≡ false) bs
none_passes bs h = All-from_get_or (λ b. is_feed b ≡ false) bs 0 (λ i lt.
    let past : i < position_or_len is_feed bs = grind (arith, h) in
    fails_before_first is_feed bs i 0 past)

utf8_parts : (most : ℕ) (bs : List ℕ) → length bs ≤ most → IsUtf8 bs → AllByRecursion IsUtf8 (slice_split is_feed bs)
utf8_parts zero [] le u = (u, tt)
utf8_parts zero (b ∷ bs) le u = absurd (omega arith)
utf8_parts (suc most) bs le u =
    let first = position_or_len is_feed bs in
    ⊎_elim
    (λ (yes : nat_lt first (length bs) ≡ true).
    let lt : first < length bs = grind (arith, yes) in
    let feed = eqb-true _ 10 (passes_at_first is_feed bs 0 lt) in
    rw (slice_split_first is_feed bs 0 lt)
    (utf8_before bs first 10 u lt feed (omega arith), utf8_parts most (drop (first + 1) bs) (grind (arith, common_steps)) (utf8_behind bs first 10 u lt feed (omega arith))))
    (λ (other : nat_lt first (length bs) ≡ false). rw (slice_split_none is_feed bs (none_passes bs other)) (u, tt))
    (cases_Bool (nat_lt first (length bs)))

pub all_texts : (n : ℕ) (text : List ℕ) → IsUtf8 text → AreTexts (statements n (lines text))
all_texts n text u = utf8_statements n (lines text) (utf8_lines _ (utf8_parts (length text) text (omega arith) u))

-- What the code has of them.
pub says_text : (queued : Bool) (text : List ℕ) (said : Saying) → IsUtf8 text → said ≡ line_says queued text → IsText said
says_text queued text said u e = subst IsText (sym e) (line_text queued text u)

pub first_text : (n : ℕ) (t : List ℕ) (all more : List Statement) → all ≡ record { number = n; text = t } ∷ more → AreTexts all → IsUtf8 t × AreTexts more
first_text n t all more e texts = subst AreTexts e texts
