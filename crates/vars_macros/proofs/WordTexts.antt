-- The words of a UTF-8 text are UTF-8.
use Rattle.std.proofs.Common.{◌≡◌, ◌∙◌, sym, ap, subst, ℕ, ◌<◌, ◌-◌, ◌⊎◌, inl, inr, Bool, true, false, cond, ◌&&◌, ◌||◌, not, nat_eq, List, [], ◌∷◌, ◌++◌, arith, ⊎_elim, length, take, drop, refl, Option, Some, None, slice_get}
use Rattle.std.proofs.lemmas.Bool.{cases_Bool, eqb-true, false≢true}
use Rattle.std.proofs.lemmas.Str.{IsUtf8-append}
use Rattle.std.proofs.lemmas.Option.{get_or_from_slice_get, slice_get_within}
use Rattle.std.specs.Str.{IsUtf8}
use Rattle.vars_macros.specs.Cut.{begins_with}
use Rattle.vars_macros.specs.Symbols.{is_pair, new_symbol, is_quote_escape, old_symbol, ends_with_byte, is_byte}
use Rattle.vars_macros.specs.ArgumentGrammar.{is_space_or_tab}
use Rattle.vars_macros.specs.declared.words.Symbol.{Symbol}
use Rattle.vars_macros.specs.declared.words.Symbol.TheVariants.{Letter, Mark, Gap, Broken}
use Rattle.vars_macros.proofs.Utf8.{utf8_before, seam_before, seam_behind, without, replaced, moved}

-- A word is over where its bytes are a text.
abbrev pub MayTake : Symbol → List ℕ → Type 0
MayTake (Letter b) word = Unit {0}
MayTake Mark word = Unit {0}
MayTake Gap word = IsUtf8 word
MayTake Broken word = Unit {0}

-- the bytes of the word that has begun, before and after the symbol
abbrev pub Leaves : Symbol → List ℕ → List ℕ → Type 0
Leaves (Letter b) old new = new ≡ old ++ b ∷ []
Leaves Mark old new = new ≡ old
Leaves Gap old new = IsUtf8 new
Leaves Broken old new = ⊥

-- The byte is that of the symbol, or both are ASCII.
abbrev pub Fits : Symbol → ℕ → Type 0
Fits (Letter c) b = (c ≡ b) ⊎ ((b < 128) × (c < 128))
Fits Mark b = b < 128
Fits Gap b = b < 128
Fits Broken b = Unit {0}

decided : {A : Type 0} (P : A → Type 0) (b : Bool) (x y : A) → (b ≡ true → P x) → (b ≡ false → P y) → P (cond b x y)
decided P true x y px py = px refl
decided P false x y px py = py refl

and_left : (a b : Bool) → (a && b) ≡ true → a ≡ true
and_left true b h = refl
and_left false b h = h

and_right : (a b : Bool) → (a && b) ≡ true → b ≡ true
and_right true b h = h
and_right false b h = absurd (false≢true h)

byte_low : (b c : ℕ) → c < 128 → nat_eq b c ≡ true → b < 128
byte_low b c low h = let e = eqb-true b c h in omega (arith, e)

blank_low : (b : ℕ) → is_space_or_tab b ≡ true → b < 128
blank_low b h =
    ⊎_elim
    (λ (yes : nat_eq b 32 ≡ true). byte_low b 32 (omega arith) yes)
    (λ (other : nat_eq b 32 ≡ false). byte_low b 9 (omega arith) (ap (λ (x : Bool). x || nat_eq b 9) (sym other) ∙ h))
    (cases_Bool (nat_eq b 32))

new_fits : (grouped : Bool) (b : ℕ) (bs : List ℕ) → Fits (new_symbol grouped b bs) b
unfolding new_symbol
new_fits grouped b bs =
    let P : Symbol → Type 0 = λ (s : Symbol). Fits s b in
    let plain = cond (is_space_or_tab b && not grouped) Gap (Letter b) in
    let single = cond (nat_eq b 39) Mark plain in
    decided P (is_pair grouped b bs) (Letter b) (cond (nat_eq b 34) Broken single) (λ _. inl refl) (λ _.
    decided P (nat_eq b 34) Broken single (λ _. tt) (λ _.
    decided P (nat_eq b 39) Mark plain (λ yes. byte_low b 39 (omega arith) yes) (λ _.
    decided P (is_space_or_tab b && not grouped) Gap (Letter b) (λ yes. blank_low b (and_left (is_space_or_tab b) (not grouped) yes)) (λ _. inl refl))))

old_fits : (b : ℕ) (bs : List ℕ) → Fits (old_symbol b bs) b
unfolding old_symbol is_quote_escape
old_fits b bs =
    let P : Symbol → Type 0 = λ (s : Symbol). Fits s b in
    decided P (nat_eq b 92 && begins_with 34 bs) (Letter 34) (cond (is_space_or_tab b) Gap (Letter b))
    (λ yes. inr (byte_low b 92 (omega arith) (and_left (nat_eq b 92) (begins_with 34 bs) yes), omega arith))
    (λ _. decided P (is_space_or_tab b) Gap (Letter b) (λ yes. blank_low b yes) (λ _. inl refl))

-- the word that has begun, with the text that is left
may_take : (s : Symbol) (b : ℕ) (bs word : List ℕ) → Fits s b → IsUtf8 (word ++ b ∷ bs) → MayTake s word
may_take (Letter c) b bs word fits u = tt
may_take Mark b bs word fits u = tt
may_take Gap b bs word fits u = seam_before word bs b fits u
may_take Broken b bs word fits u = tt

leaves_text : (s : Symbol) (b : ℕ) (bs word new : List ℕ) → Fits s b → IsUtf8 (word ++ b ∷ bs) → Leaves s word new → IsUtf8 (new ++ bs)
leaves_text (Letter c) b bs word new (inl same) u left =
    subst (λ (xs : List ℕ). IsUtf8 (xs ++ bs)) (ap (λ (x : ℕ). word ++ x ∷ []) (sym same) ∙ sym left) (moved word bs b u)
leaves_text (Letter c) b bs word new (inr (low, small)) u left = subst (λ (xs : List ℕ). IsUtf8 (xs ++ bs)) (sym left) (replaced word bs b c low small u)
leaves_text Mark b bs word new fits u left = subst (λ (xs : List ℕ). IsUtf8 (xs ++ bs)) (sym left) (without word bs b fits u)
leaves_text Gap b bs word new fits u left = IsUtf8-append new bs left (seam_behind word bs b fits u)
leaves_text Broken b bs word new fits u left = absurd left

pub new_may : (grouped : Bool) (b : ℕ) (bs word : List ℕ) → IsUtf8 (word ++ b ∷ bs) → MayTake (new_symbol grouped b bs) word
new_may grouped b bs word u = may_take (new_symbol grouped b bs) b bs word (new_fits grouped b bs) u

pub old_may : (b : ℕ) (bs word : List ℕ) → IsUtf8 (word ++ b ∷ bs) → MayTake (old_symbol b bs) word
old_may b bs word u = may_take (old_symbol b bs) b bs word (old_fits b bs) u

pub new_leaves : (grouped : Bool) (b : ℕ) (bs word new : List ℕ) → IsUtf8 (word ++ b ∷ bs) → Leaves (new_symbol grouped b bs) word new → IsUtf8 (new ++ bs)
new_leaves grouped b bs word new u left = leaves_text (new_symbol grouped b bs) b bs word new (new_fits grouped b bs) u left

pub old_leaves : (b : ℕ) (bs word new : List ℕ) → IsUtf8 (word ++ b ∷ bs) → Leaves (old_symbol b bs) word new → IsUtf8 (new ++ bs)
old_leaves b bs word new u left = leaves_text (old_symbol b bs) b bs word new (old_fits b bs) u left

-- The second byte of a pair is ASCII, and left out.
abbrev pub BeginsAscii : List ℕ → Type 0
BeginsAscii [] = Unit {0}
BeginsAscii (b ∷ bs) = b < 128

begins_ascii : (b : ℕ) (bs : List ℕ) → b < 128 → begins_with b bs ≡ true → BeginsAscii bs
begins_ascii b [] low h = tt
begins_ascii b (c ∷ cs) low h = let e = eqb-true c b h in omega (arith, e)

quote_low : (grouped : Bool) (b : ℕ) → (nat_eq b 34 || (nat_eq b 39 && grouped)) ≡ true → b < 128
quote_low grouped b h =
    ⊎_elim
    (λ (yes : nat_eq b 34 ≡ true). byte_low b 34 (omega arith) yes)
    (λ (other : nat_eq b 34 ≡ false). byte_low b 39 (omega arith) (and_left (nat_eq b 39) grouped (ap (λ (x : Bool). x || (nat_eq b 39 && grouped)) (sym other) ∙ h)))
    (cases_Bool (nat_eq b 34))

pub pair_ascii : (grouped : Bool) (b : ℕ) (bs : List ℕ) → is_pair grouped b bs ≡ true → BeginsAscii bs
unfolding is_pair
pair_ascii grouped b bs h =
    let quote = nat_eq b 34 || (nat_eq b 39 && grouped) in
    begins_ascii b bs (quote_low grouped b (and_left quote (begins_with b bs) h)) (and_right quote (begins_with b bs) h)

pub escape_ascii : (b : ℕ) (bs : List ℕ) → is_quote_escape b bs ≡ true → BeginsAscii bs
unfolding is_quote_escape
escape_ascii b bs h = begins_ascii 34 bs (omega arith) (and_right (nat_eq b 92) (begins_with 34 bs) h)

pub left_out : (b : ℕ) (bs word : List ℕ) → BeginsAscii (b ∷ bs) → IsUtf8 (word ++ b ∷ bs) → IsUtf8 (word ++ bs)
left_out b bs word low u = without word bs b low u

last_is : (o : Option ℕ) → is_byte 34 o ≡ true → o ≡ Some 34
last_is None h = absurd (false≢true h)
last_is (Some b) h = ap (λ (x : ℕ). Some x) (eqb-true b 34 h)

pub last_text : (text : List ℕ) → ends_with_byte 34 text ≡ true → IsUtf8 text → IsUtf8 (take (length text - 1) text)
last_text text h u =
    let n = length text - 1 in
    let at : slice_get text n ≡ Some 34 = last_is (slice_get text n) h in
    utf8_before text n 34 u (slice_get_within text n 34 at) (get_or_from_slice_get text n 34 0 at) (omega arith)

take_whole : (xs : List ℕ) → take (length xs) xs ≡ xs
take_whole [] = refl
take_whole (x ∷ xs) = ap (λ (ys : List ℕ). x ∷ ys) (take_whole xs)

-- what is after a double quote
pub behind_text : (text : List ℕ) → begins_with 34 text ≡ true → IsUtf8 text → IsUtf8 (take (length text - 1) (drop 1 text))
behind_text [] h u = absurd (false≢true h)
behind_text (b ∷ bs) h u =
    let less : length (b ∷ bs) - 1 ≡ length bs = omega arith in
    subst IsUtf8 (sym (ap (λ (n : ℕ). take n bs) less ∙ take_whole bs)) (seam_behind [] bs b (byte_low b 34 (omega arith) h) u)
