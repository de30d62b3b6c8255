-- Texts that are the same but for numbers.
use Rattle.std.proofs.Common.{◌≡◌, ◌∙◌, sym, ap, refl, subst, ℕ, suc, ◌<◌, ◌==◌, nat_eq, nat_lt, Bool, true, false, ◌||◌, List, [], ◌∷◌, ◌++◌, length, arith, append_assoc, append-nil, length-append}
use Rattle.std.proofs.lemmas.Bool.{false≢true, eqb-true, eq-eqb, lt-ltb, and_parts, or_from}
use Rattle.std.proofs.lemmas.List.Folds.{list_any-append}
use Rattle.std.specs.Char.{is_ascii_digit}
use Rattle.std.specs.List.{list_any}
use Rattle.std.specs.Str.{all_ascii_digits}
use Rattle.vars_macros.specs.Cut.{begins_with}
use Rattle.vars_macros.specs.Numbers.{IsDecimal, DifferInNumbers, AllDifferInNumbers, ends, byte, numbers}

-- Digits and other bytes.
pub digit_is_not : (b c : ℕ) → is_ascii_digit b ≡ true → is_ascii_digit c ≡ false → nat_eq b c ≡ false
digit_is_not b c d other = decide (nat_eq b c) refl
  where
    decide : (t : Bool) → nat_eq b c ≡ t → nat_eq b c ≡ false
    decide true e = absurd (false≢true (sym other ∙ (ap is_ascii_digit (sym (eqb-true b c e)) ∙ d)))
    decide false e = e

pub number_begins : (c : ℕ) (d x : List ℕ) → is_ascii_digit c ≡ false → IsDecimal d → begins_with c (d ++ x) ≡ false
number_begins c [] x other is = absurd (omega (arith, is.some))
number_begins c (b ∷ bs) x other is = digit_is_not b c (and_parts (is_ascii_digit b) (all_ascii_digits bs) is.digits).0 other

digits_have : (c : ℕ) (d : List ℕ) → is_ascii_digit c ≡ false → all_ascii_digits d ≡ true → list_any (λ b. b == c) d ≡ false
digits_have c [] other is = refl
digits_have c (b ∷ bs) other is =
    let p = and_parts (is_ascii_digit b) (all_ascii_digits bs) is in
    or_from (nat_eq b c) (list_any (λ b. b == c) bs) (digit_is_not b c p.0 other) (digits_have c bs other p.1)

-- a byte that is no digit is after all the digits
past_digits : (c : ℕ) (d x front : List ℕ) → is_ascii_digit c ≡ false → all_ascii_digits d ≡ true → d ++ x ≡ front ++ c ∷ [] →
    (rest : List ℕ) × (front ≡ d ++ rest) × (x ≡ rest ++ c ∷ [])
past_digits c [] x front other is e = (front, refl, e)
past_digits c (b ∷ bs) x [] other is e =
    let same : b ≡ c = cc in
    absurd (false≢true (sym other ∙ (ap is_ascii_digit (sym same) ∙ (and_parts (is_ascii_digit b) (all_ascii_digits bs) is).0)))
past_digits c (b ∷ bs) x (f ∷ fs) other is e =
    let same : b ≡ f = cc in
    let tails : bs ++ x ≡ fs ++ c ∷ [] = cc in
    let p = past_digits c bs x fs other (and_parts (is_ascii_digit b) (all_ascii_digits bs) is).1 tails in
    (p.0, ap (λ (k : ℕ). k ∷ fs) (sym same) ∙ ap (λ (ks : List ℕ). b ∷ ks) p.1, p.2)

-- A text differs from itself in no number.
pub same_text : (x : List ℕ) → DifferInNumbers x x
same_text [] = ends
same_text (b ∷ bs) = byte b (same_text bs)

pub turned : {x y : List ℕ} → DifferInNumbers x y → DifferInNumbers y x
turned ends = ends
turned (byte b h) = byte b (turned h)
turned (numbers d e p q h) = numbers e d q p (turned h)

pub joined : {u v x y : List ℕ} → DifferInNumbers x y → DifferInNumbers u v → DifferInNumbers (x ++ u) (y ++ v)
joined ends h = h
joined (byte b g) h = byte b (joined g h)
joined {u = u} {v = v} (numbers {x = x} {y = y} d e p q g) h = rw (append_assoc d x u, append_assoc e y v) (numbers d e p q (joined g h))

-- two numbers
pub number_pair : (d e : List ℕ) → IsDecimal d → IsDecimal e → DifferInNumbers d e
number_pair d e p q = subst (λ (x : List ℕ). DifferInNumbers x e) (append-nil d) (subst (λ (y : List ℕ). DifferInNumbers (d ++ []) y) (append-nil e) (numbers d e p q ends))

has_bytes : (x : List ℕ) → 0 < length x → nat_lt 0 (length x) ≡ true
has_bytes x h = lt-ltb 0 (length x) h

-- Both are empty, or neither is.
pub empty_alike : {x y : List ℕ} → DifferInNumbers x y → nat_lt 0 (length x) ≡ nat_lt 0 (length y)
empty_alike ends = refl
empty_alike (byte {x = x} {y = y} b h) = has_bytes (b ∷ x) (omega arith) ∙ sym (has_bytes (b ∷ y) (omega arith))
empty_alike (numbers {x = x} {y = y} d e p q h) =
    has_bytes (d ++ x) (omega (arith, p.some, length-append d x)) ∙ sym (has_bytes (e ++ y) (omega (arith, q.some, length-append e y)))

pub empty_of : {x y : List ℕ} → DifferInNumbers x y → length x ≡ 0 → y ≡ []
empty_of ends none = refl
empty_of (byte b h) none = absurd (omega arith)
empty_of (numbers {x = x} d e p q h) none = absurd (omega (arith, p.some, length-append d x))

-- A byte that is no digit begins both, or neither.
pub begins_alike : (c : ℕ) → is_ascii_digit c ≡ false → {x y : List ℕ} → DifferInNumbers x y → begins_with c x ≡ begins_with c y
begins_alike c other ends = refl
begins_alike c other (byte b h) = refl
begins_alike c other (numbers {x = x} {y = y} d e p q h) = number_begins c d x other p ∙ sym (number_begins c e y other q)

-- A byte that is no digit is in both, or in neither.
pub any_alike : (c : ℕ) → is_ascii_digit c ≡ false → {x y : List ℕ} → DifferInNumbers x y → list_any (λ b. b == c) x ≡ list_any (λ b. b == c) y
any_alike c other ends = refl
any_alike c other (byte b h) = ap (λ (t : Bool). nat_eq b c || t) (any_alike c other h)
any_alike c other (numbers {x = x} {y = y} d e p q h) =
    list_any-append (λ b. b == c) d x
    ∙ ap (λ (t : Bool). t || list_any (λ b. b == c) x) (digits_have c d other p.digits ∙ sym (digits_have c e other q.digits))
    ∙ ap (λ (t : Bool). list_any (λ b. b == c) e || t) (any_alike c other h)
    ∙ sym (list_any-append (λ b. b == c) e y)

-- what comes after a first byte that is no digit
pub behind_alike : (c : ℕ) → is_ascii_digit c ≡ false → {x y : List ℕ} → DifferInNumbers x y → (xs : List ℕ) → x ≡ c ∷ xs →
    (ys : List ℕ) × (y ≡ c ∷ ys) × DifferInNumbers xs ys
behind_alike c other ends xs is = absurd cc
behind_alike c other (byte {x = x} {y = y} b h) xs is =
    let same : b ≡ c = cc in
    let tails : x ≡ xs = cc in
    (y, ap (λ (k : ℕ). k ∷ y) same, subst (λ (l : List ℕ). DifferInNumbers l y) tails h)
behind_alike c other (numbers {x = x} d e p q h) xs is =
    absurd (false≢true (sym (number_begins c d x other p) ∙ (ap (begins_with c) is ∙ eq-eqb c c refl)))

-- what comes before a last byte that is no digit
pub before_alike : (c : ℕ) → is_ascii_digit c ≡ false → {x y : List ℕ} → DifferInNumbers x y → (xs : List ℕ) → x ≡ xs ++ c ∷ [] →
    (ys : List ℕ) × (y ≡ ys ++ c ∷ []) × DifferInNumbers xs ys
before_alike c other ends xs is = absurd (omega (arith, ap length is, length-append xs (c ∷ [])))
before_alike c other (byte {x = x} {y = y} b h) [] is =
    let same : b ≡ c = cc in
    let none : x ≡ [] = cc in
    ([], ap (λ (k : ℕ). k ∷ y) same ∙ ap (λ (l : List ℕ). c ∷ l) (empty_of h (ap length none)), ends)
before_alike c other (byte {x = x} {y = y} b h) (k ∷ ks) is =
    let same : b ≡ k = cc in
    let tails : x ≡ ks ++ c ∷ [] = cc in
    let p = before_alike c other h ks tails in
    (b ∷ p.0, ap (λ (l : List ℕ). b ∷ l) p.1, subst (λ (i : ℕ). DifferInNumbers (i ∷ ks) (b ∷ p.0)) same (byte b p.2))
before_alike c other (numbers {x = x} {y = y} d e p q h) xs is =
    let past = past_digits c d x xs other p.digits is in
    let front = before_alike c other h past.0 past.2 in (
      e ++ front.0,
      ap (λ (l : List ℕ). e ++ l) front.1 ∙ sym (append_assoc e front.0 (c ∷ [])),
      subst (λ (l : List ℕ). DifferInNumbers l (e ++ front.0)) (sym past.1) (numbers d e p q front.2),
    )

-- Lists of texts.
pub same_texts : (xs : List (List ℕ)) → AllDifferInNumbers xs xs
same_texts [] = tt
same_texts (x ∷ xs) = (same_text x, same_texts xs)

-- as many texts
pub as_many : (xs ys : List (List ℕ)) → AllDifferInNumbers xs ys → length xs ≡ length ys
as_many [] [] all = refl
as_many [] (y ∷ ys) all = absurd all
as_many (x ∷ xs) [] all = absurd all
as_many (x ∷ xs) (y ∷ ys) all = ap suc (as_many xs ys all.1)

-- a test that no number changes
pub any_text : (test : List ℕ → Bool) → ((x y : List ℕ) → DifferInNumbers x y → test x ≡ test y) → (xs ys : List (List ℕ)) → AllDifferInNumbers xs ys →
    list_any test xs ≡ list_any test ys
any_text test unchanged [] [] all = refl
any_text test unchanged [] (y ∷ ys) all = absurd all
any_text test unchanged (x ∷ xs) [] all = absurd all
any_text test unchanged (x ∷ xs) (y ∷ ys) all =
    ap (λ (t : Bool). t || list_any test xs) (unchanged x y all.0) ∙ ap (λ (t : Bool). test y || t) (any_text test unchanged xs ys all.1)
