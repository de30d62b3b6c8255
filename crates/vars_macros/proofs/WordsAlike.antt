-- Arguments that are the same but for numbers have words that are the same but for numbers.
use Rattle.std.proofs.Common.{◌≡◌, ◌∙◌, sym, ap, refl, subst, ℕ, zero, suc, ◌+◌, ◌-◌, ◌<◌, ◌==◌, Bool, true, false, ◌||◌, ◌&&◌, List, [], ◌∷◌, ◌++◌, map, length, take, drop, slice_get, arith, Option, Some, None, Ok, Err, append_assoc, append-nil}
use Rattle.std.proofs.lemmas.Bool.{false≢true, eqb-true, and_parts, cond-true, cond-false}
use Rattle.std.proofs.lemmas.List.Elements.{AllZip-push}
use Rattle.std.specs.Char.{is_ascii_digit}
use Rattle.std.specs.Str.{all_ascii_digits}
use Rattle.vars_macros.specs.Cut.{begins_with}
use Rattle.vars_macros.specs.Symbols.{gathered, is_pair, new_symbol, grouped_after, new_symbols, is_quote_escape, old_symbol, old_symbols, is_byte, ends_with_byte, quoted_symbols, argument_symbols, arguments}
use Rattle.vars_macros.specs.ArgumentGrammar.{is_space_or_tab}
use Rattle.vars_macros.specs.Gathered.{Gathering, word_closed, no_words}
use Rattle.vars_macros.specs.declared.words.Symbol.{Symbol}
use Rattle.vars_macros.specs.declared.words.Symbol.TheVariants.{Letter, Mark, Gap, Broken}
use Rattle.vars_macros.specs.Numbers.{IsDecimal, DifferInNumbers, AllDifferInNumbers, ends, byte, numbers}
use Rattle.vars_macros.specs.declared.fault.MacroFault.TheVariants.{BadQuote}
use Rattle.vars_macros.proofs.DigitRuns.{digit_is_not, number_begins, same_text, joined, number_pair, begins_alike, behind_alike, before_alike}
use Rattle.vars_macros.proofs.Groups.{last_quote, front_of}

-- symbols that are the same but for the letters of numbers
data SayAlike : List Symbol → List Symbol → Type 0 where
  over : SayAlike [] []
  also : {ss ts : List Symbol} (s : Symbol) → SayAlike ss ts → SayAlike (s ∷ ss) (s ∷ ts)
  spelt : {ss ts : List Symbol} (d e : List ℕ) → IsDecimal d → IsDecimal e → SayAlike ss ts → SayAlike (map Letter d ++ ss) (map Letter e ++ ts)

says_same : (ss : List Symbol) → SayAlike ss ss
says_same [] = over
says_same (s ∷ ss) = also s (says_same ss)

-- Words that are gathered from them.
abbrev gathering : List (List ℕ) → List ℕ → Bool → Gathering
gathering ws w b = record { words = ws; word = w; begun = b }

letters_on : (d : List ℕ) (ws : List (List ℕ)) (w : List ℕ) (ss : List Symbol) → gathered (gathering ws w true) (map Letter d ++ ss) ≡ gathered (gathering ws (w ++ d) true) ss
unfolding gathered
letters_on [] ws w ss = ap (λ (x : List ℕ). gathered (gathering ws x true) ss) (sym (append-nil w))
letters_on (b ∷ bs) ws w ss = letters_on bs ws (w ++ b ∷ []) ss ∙ ap (λ (x : List ℕ). gathered (gathering ws x true) ss) (append_assoc w (b ∷ []) bs)

number_on : (d : List ℕ) (ws : List (List ℕ)) (w : List ℕ) (b : Bool) (ss : List Symbol) → 0 < length d →
    gathered (gathering ws w b) (map Letter d ++ ss) ≡ gathered (gathering ws (w ++ d) true) ss
unfolding gathered
number_on [] ws w b ss some = absurd (omega arith)
number_on (c ∷ cs) ws w b ss some = letters_on cs ws (w ++ c ∷ []) ss ∙ ap (λ (x : List ℕ). gathered (gathering ws x true) ss) (append_assoc w (c ∷ []) cs)

-- there are such words for the other symbols too
abbrev GathersAlike : List (List ℕ) → Gathering → List Symbol → Type 0
GathersAlike out g ts = (others : List (List ℕ)) × (gathered g ts ≡ Ok others) × AllDifferInNumbers out others

all_over : (ws vs : List (List ℕ)) (w v : List ℕ) (b : Bool) (out : List (List ℕ)) → AllDifferInNumbers ws vs → DifferInNumbers w v →
    (word_closed (gathering ws w b)).words ≡ out → AllDifferInNumbers out (word_closed (gathering vs v b)).words
all_over ws vs w v true out all h is = subst (λ (o : List (List ℕ)). AllDifferInNumbers o (vs ++ v ∷ [])) is (AllZip-push DifferInNumbers ws vs w v all h)
all_over ws vs w v false out all h is = subst (λ (o : List (List ℕ)). AllDifferInNumbers o vs) is all

gathered_alike : {ss ts : List Symbol} → SayAlike ss ts → (ws vs : List (List ℕ)) (w v : List ℕ) (b : Bool) (out : List (List ℕ)) →
    AllDifferInNumbers ws vs → DifferInNumbers w v → gathered (gathering ws w b) ss ≡ Ok out → GathersAlike out (gathering vs v b) ts
unfolding gathered
gathered_alike over ws vs w v b out all h is =
    let same : (word_closed (gathering ws w b)).words ≡ out = cc in
    ((word_closed (gathering vs v b)).words, refl, all_over ws vs w v b out all h same)
gathered_alike (also (Letter c) alike) ws vs w v b out all h is =
    gathered_alike alike ws vs (w ++ c ∷ []) (v ++ c ∷ []) true out all (joined h (same_text (c ∷ []))) is
gathered_alike (also Mark alike) ws vs w v b out all h is = gathered_alike alike ws vs w v true out all h is
gathered_alike (also Gap alike) ws vs w v true out all h is =
    gathered_alike alike (ws ++ w ∷ []) (vs ++ v ∷ []) [] [] false out (AllZip-push DifferInNumbers ws vs w v all h) ends is
gathered_alike (also Gap alike) ws vs w v false out all h is = gathered_alike alike ws vs w v false out all h is
gathered_alike (also Broken alike) ws vs w v b out all h is = let wrong : Err BadQuote ≡ Ok out = is in absurd cc
gathered_alike (spelt {ss = ss} {ts = ts} d e p q alike) ws vs w v b out all h is =
    let rest = gathered_alike alike ws vs (w ++ d) (v ++ e) true out all (joined h (number_pair d e p q)) (sym (number_on d ws w b ss p.some) ∙ is) in
    (rest.0, number_on e vs v b ts q.some ∙ rest.1, rest.2)

-- A digit is a letter.
blank_digit : (b : ℕ) → is_ascii_digit b ≡ true → is_space_or_tab b ≡ false
blank_digit b d = rw (digit_is_not b 32 d refl, digit_is_not b 9 d refl) refl

digit_escape : (b : ℕ) (rest : List ℕ) → is_ascii_digit b ≡ true → is_quote_escape b rest ≡ false
unfolding is_quote_escape
digit_escape b rest d = rw (digit_is_not b 92 d refl) refl

digit_old : (b : ℕ) (rest : List ℕ) → is_ascii_digit b ≡ true → old_symbol b rest ≡ Letter b
unfolding old_symbol
digit_old b rest d = rw (digit_escape b rest d, blank_digit b d) refl

digit_pair : (grouped : Bool) (b : ℕ) (rest : List ℕ) → is_ascii_digit b ≡ true → is_pair grouped b rest ≡ false
unfolding is_pair
digit_pair grouped b rest d = rw (digit_is_not b 34 d refl, digit_is_not b 39 d refl) refl

digit_new : (grouped : Bool) (b : ℕ) (rest : List ℕ) → is_ascii_digit b ≡ true → new_symbol grouped b rest ≡ Letter b
unfolding new_symbol
digit_new grouped b rest d = rw (digit_pair grouped b rest d, digit_is_not b 34 d refl, digit_is_not b 39 d refl, blank_digit b d) refl

digit_group : (grouped : Bool) (b : ℕ) (rest : List ℕ) → is_ascii_digit b ≡ true → grouped_after grouped b rest ≡ grouped
unfolding grouped_after
digit_group grouped b rest d = rw (digit_is_not b 39 d refl) refl

old_digits : (d x : List ℕ) → all_ascii_digits d ≡ true → old_symbols false (d ++ x) ≡ map Letter d ++ old_symbols false x
old_digits [] x is = refl
old_digits (b ∷ bs) x is =
    let p = and_parts (is_ascii_digit b) (all_ascii_digits bs) is in
    ap (λ (t : Bool). old_symbol b (bs ++ x) ∷ old_symbols t (bs ++ x)) (digit_escape b (bs ++ x) p.0)
    ∙ ap (λ (s : Symbol). s ∷ old_symbols false (bs ++ x)) (digit_old b (bs ++ x) p.0)
    ∙ ap (λ (ss : List Symbol). Letter b ∷ ss) (old_digits bs x p.1)

new_digits : (grouped : Bool) (d x : List ℕ) → all_ascii_digits d ≡ true → new_symbols false grouped (d ++ x) ≡ map Letter d ++ new_symbols false grouped x
new_digits grouped [] x is = refl
new_digits grouped (b ∷ bs) x is =
    let p = and_parts (is_ascii_digit b) (all_ascii_digits bs) is in
    ap (λ (t : Bool). new_symbol grouped b (bs ++ x) ∷ new_symbols t (grouped_after grouped b (bs ++ x)) (bs ++ x)) (digit_pair grouped b (bs ++ x) p.0)
    ∙ ap (λ (t : Bool). new_symbol grouped b (bs ++ x) ∷ new_symbols false t (bs ++ x)) (digit_group grouped b (bs ++ x) p.0)
    ∙ ap (λ (s : Symbol). s ∷ new_symbols false grouped (bs ++ x)) (digit_new grouped b (bs ++ x) p.0)
    ∙ ap (λ (ss : List Symbol). Letter b ∷ ss) (new_digits grouped bs x p.1)

-- The second byte of a pair is no digit.
abbrev AtPair : Bool → List ℕ → Type 0
AtPair paired x = paired ≡ true → (c : ℕ) × (is_ascii_digit c ≡ false) × (begins_with c x ≡ true)

unpaired : (x : List ℕ) → AtPair false x
unpaired x e = absurd (false≢true e)

no_number : (d x : List ℕ) → IsDecimal d → AtPair true (d ++ x) → ⊥
no_number d x is at =
    let p = at refl in
    false≢true (sym (number_begins p.0 d x p.1 is) ∙ p.2)

escape_alike : (b : ℕ) (x y : List ℕ) → DifferInNumbers x y → is_quote_escape b y ≡ is_quote_escape b x
unfolding is_quote_escape
escape_alike b x y h = ap (λ (t : Bool). b == 92 && t) (sym (begins_alike 34 refl h))

escape_pair : (b : ℕ) (x : List ℕ) → AtPair (is_quote_escape b x) x
unfolding is_quote_escape
escape_pair b x e = (34, refl, (and_parts (b == 92) (begins_with 34 x) e).1)

old_alike_at : (b : ℕ) (x y : List ℕ) → is_quote_escape b y ≡ is_quote_escape b x → old_symbol b y ≡ old_symbol b x
unfolding old_symbol
old_alike_at b x y e = rw e refl

old_alike : {x y : List ℕ} → DifferInNumbers x y → (escaped : Bool) → AtPair escaped x → SayAlike (old_symbols escaped x) (old_symbols escaped y)
old_alike ends escaped at = over
old_alike (byte {x = x} b h) true at = old_alike h false (unpaired x)
old_alike (byte {x = x} {y = y} b h) false at =
    let same = escape_alike b x y h in
    rw (old_alike_at b x y same, same) (also (old_symbol b x) (old_alike h (is_quote_escape b x) (escape_pair b x)))
old_alike (numbers {x = x} d e p q h) true at = absurd (no_number d x p at)
old_alike (numbers {x = x} {y = y} d e p q h) false at =
    rw (old_digits d x p.digits, old_digits e y q.digits) (spelt d e p q (old_alike h false (unpaired x)))

-- A byte is a quote of either kind, or begins no pair.
pair_alike : (grouped : Bool) (b : ℕ) (x y : List ℕ) → DifferInNumbers x y → is_pair grouped b y ≡ is_pair grouped b x
unfolding is_pair
pair_alike grouped b x y h = by_byte (is_ascii_digit b) refl
  where
    by_byte : (t : Bool) → is_ascii_digit b ≡ t → ((b == 34 || (b == 39 && grouped)) && begins_with b y) ≡ ((b == 34 || (b == 39 && grouped)) && begins_with b x)
    by_byte true d = rw (digit_is_not b 34 d refl, digit_is_not b 39 d refl) refl
    by_byte false d = ap (λ (t : Bool). (b == 34 || (b == 39 && grouped)) && t) (sym (begins_alike b d h))

pair_at : (grouped : Bool) (b : ℕ) (x : List ℕ) → AtPair (is_pair grouped b x) x
unfolding is_pair
pair_at grouped b x e = by_byte (is_ascii_digit b) refl
  where
    by_byte : (t : Bool) → is_ascii_digit b ≡ t → (c : ℕ) × (is_ascii_digit c ≡ false) × (begins_with c x ≡ true)
    by_byte true d = absurd (false≢true (sym (digit_pair grouped b x d) ∙ e))
    by_byte false d = (b, d, (and_parts (b == 34 || (b == 39 && grouped)) (begins_with b x) e).1)

new_alike_at : (grouped : Bool) (b : ℕ) (x y : List ℕ) → is_pair grouped b y ≡ is_pair grouped b x → new_symbol grouped b y ≡ new_symbol grouped b x
unfolding new_symbol
new_alike_at grouped b x y e = rw e refl

group_alike_at : (grouped : Bool) (b : ℕ) (x y : List ℕ) → is_pair grouped b y ≡ is_pair grouped b x → grouped_after grouped b y ≡ grouped_after grouped b x
unfolding grouped_after
group_alike_at grouped b x y e = rw e refl

new_alike : {x y : List ℕ} → DifferInNumbers x y → (paired grouped : Bool) → AtPair paired x → SayAlike (new_symbols paired grouped x) (new_symbols paired grouped y)
new_alike ends paired grouped at = says_same (new_symbols paired grouped [])
new_alike (byte {x = x} b h) true grouped at = new_alike h false grouped (unpaired x)
new_alike (byte {x = x} {y = y} b h) false grouped at =
    let same = pair_alike grouped b x y h in
    rw (new_alike_at grouped b x y same, group_alike_at grouped b x y same, same)
    (also (new_symbol grouped b x) (new_alike h (is_pair grouped b x) (grouped_after grouped b x) (pair_at grouped b x)))
new_alike (numbers {x = x} d e p q h) true grouped at = absurd (no_number d x p at)
new_alike (numbers {x = x} {y = y} d e p q h) false grouped at =
    rw (new_digits grouped d x p.digits, new_digits grouped e y q.digits) (spelt d e p q (new_alike h false grouped (unpaired x)))

-- New style: what ends with a double quote.
ends_with : (c : ℕ) (x : List ℕ) (n : ℕ) (at : Option ℕ) → n + 1 ≡ length x → slice_get x n ≡ at → is_byte c at ≡ true → x ≡ take n x ++ c ∷ []
ends_with c [] n at long e is = absurd (omega arith)
ends_with c (b ∷ []) zero None long e is = absurd (false≢true is)
ends_with c (b ∷ []) zero (Some k) long e is =
    let same : b ≡ k = cc in
    ap (λ (i : ℕ). i ∷ []) (same ∙ eqb-true k c is)
ends_with c (b ∷ x ∷ xs) zero at long e is = absurd (omega arith)
ends_with c (b ∷ bs) (suc n) at long e is = ap (λ (xs : List ℕ). b ∷ xs) (ends_with c bs n at (omega arith) e is)

pub last_splits : (c : ℕ) (x : List ℕ) → ends_with_byte c x ≡ true → x ≡ take (length x - 1) x ++ c ∷ []
last_splits c [] is = absurd (false≢true is)
last_splits c (b ∷ bs) is = ends_with c (b ∷ bs) (length (b ∷ bs) - 1) (slice_get (b ∷ bs) (length (b ∷ bs) - 1)) (omega arith) refl is

pub quoted_front : (x : List ℕ) → quoted_symbols (x ++ 34 ∷ []) ≡ new_symbols false false x
quoted_front x =
    cond-true (ends_with_byte 34 (x ++ 34 ∷ [])) (new_symbols false false (take (length (x ++ 34 ∷ []) - 1) (x ++ 34 ∷ []))) (Broken ∷ []) (ap (is_byte 34) (last_quote x) ∙ refl)
    ∙ ap (new_symbols false false) (front_of x)

broken : (out : List (List ℕ)) → gathered no_words (Broken ∷ []) ≡ Ok out → ⊥
unfolding gathered
broken out h = let wrong : Err BadQuote ≡ Ok out = h in cc

quoted_alike : (x y : List ℕ) → DifferInNumbers x y → (out : List (List ℕ)) → gathered no_words (quoted_symbols x) ≡ Ok out → GathersAlike out no_words (quoted_symbols y)
quoted_alike x y h out is = by_last (ends_with_byte 34 x) refl
  where
    by_last : (t : Bool) → ends_with_byte 34 x ≡ t → GathersAlike out no_words (quoted_symbols y)
    by_last false e = absurd (broken out (ap (gathered no_words) (sym (cond-false (ends_with_byte 34 x) (new_symbols false false (take (length x - 1) x)) (Broken ∷ []) e)) ∙ is))
    by_last true e =
        let front = take (length x - 1) x in
        let split = last_splits 34 x e in
        let p = before_alike 34 refl h front split in
        let says : quoted_symbols y ≡ new_symbols false false p.0 = ap quoted_symbols p.1 ∙ quoted_front p.0 in
        subst (λ (ts : List Symbol). GathersAlike out no_words ts) (sym says)
        (gathered_alike (new_alike p.2 false false (unpaired front)) [] [] [] [] false out tt ends
        (ap (gathered no_words) (sym (cond-true (ends_with_byte 34 x) (new_symbols false false front) (Broken ∷ []) e)) ∙ is))

-- Old style: what begins with no double quote.
pub begins_is : (c : ℕ) (x : List ℕ) → begins_with c x ≡ true → x ≡ c ∷ drop 1 x
begins_is c [] h = absurd (false≢true h)
begins_is c (b ∷ bs) h = ap (λ (i : ℕ). i ∷ bs) (eqb-true b c h)

pub old_style : (x : List ℕ) → begins_with 34 x ≡ false → argument_symbols x ≡ old_symbols false x
old_style [] h = refl
old_style (b ∷ bs) h = cond-false (b == 34) (quoted_symbols bs) (old_symbols false (b ∷ bs)) h

pub words_alike : (x y : List ℕ) → DifferInNumbers x y → (out : List (List ℕ)) → arguments x ≡ Ok out →
    (others : List (List ℕ)) × (arguments y ≡ Ok others) × AllDifferInNumbers out others
words_alike x y h out is = by_style (begins_with 34 x) refl
  where
    by_style : (t : Bool) → begins_with 34 x ≡ t → GathersAlike out no_words (argument_symbols y)
    by_style true e =
        let front = begins_is 34 x e in
        let p = behind_alike 34 refl h (drop 1 x) front in
        subst (λ (l : List ℕ). GathersAlike out no_words (argument_symbols l)) (sym p.1)
        (quoted_alike (drop 1 x) p.0 p.2 out (ap arguments (sym front) ∙ is))
    by_style false e =
        subst (λ (ts : List Symbol). GathersAlike out no_words ts) (sym (old_style y (sym (begins_alike 34 refl h) ∙ e)))
        (gathered_alike (old_alike h false (unpaired x)) [] [] [] [] false out tt ends (ap (gathered no_words) (sym (old_style x e)) ∙ is))
