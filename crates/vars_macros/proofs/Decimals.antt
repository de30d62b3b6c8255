-- Numbers that are written in decimal.
use Rattle.std.proofs.Common.{◌≡◌, refl, ℕ, zero, suc, ◌<◌, ◌≤◌, ◌/◌, ◌%◌, nat_eq, Bool, true, false, cond, List, [], ◌∷◌, length, arith, decimal}
use Rattle.std.proofs.lemmas.Bool.{eqb-true, eqb-false, cond_both, and_from}
use Rattle.std.proofs.lemmas.Bool.Decides.{nat_tests}
use Rattle.std.specs.Char.{is_ascii_digit}
use Rattle.std.specs.Fmt.{digits, digits_onto, digit_glyph}
use Rattle.std.specs.Str.{all_ascii_digits}
use Rattle.vars_macros.specs.Numbers.{IsDecimal, IsNoLongerNumber}

glyph_is_digit : (d : ℕ) → d < 10 → is_ascii_digit (digit_glyph false d) ≡ true
glyph_is_digit d h = grind (arith, nat_tests)

last_is_digit : (n : ℕ) → is_ascii_digit (digit_glyph false (n % 10)) ≡ true
last_is_digit n = glyph_is_digit (n % 10) (omega arith)

onto_digits : (k n : ℕ) (behind : List ℕ) → all_ascii_digits behind ≡ true → all_ascii_digits (digits_onto k 10 false n behind) ≡ true
onto_digits zero n behind h = h
onto_digits (suc k) n behind h =
    let more : all_ascii_digits (digit_glyph false (n % 10) ∷ behind) ≡ true = and_from (is_ascii_digit (digit_glyph false (n % 10))) (all_ascii_digits behind) (last_is_digit n) h in
    cond_both (nat_eq (n / 10) 0) _ _ (λ (x : List ℕ). all_ascii_digits x ≡ true) (λ _. more) (λ _. onto_digits k (n / 10) (digit_glyph false (n % 10) ∷ behind) more)

onto_longer : (k n : ℕ) (behind : List ℕ) → length behind ≤ length (digits_onto k 10 false n behind)
onto_longer zero n behind = omega arith
onto_longer (suc k) n behind =
    let rest : length (digit_glyph false (n % 10) ∷ behind) ≤ length (digits_onto k 10 false (n / 10) (digit_glyph false (n % 10) ∷ behind)) = onto_longer k (n / 10) (digit_glyph false (n % 10) ∷ behind) in
    cond_both (nat_eq (n / 10) 0) _ _ (λ (x : List ℕ). length behind ≤ length x) (λ _. omega arith) (λ _. omega arith)

onto_some : (k n : ℕ) (behind : List ℕ) → length behind < length (digits_onto (suc k) 10 false n behind)
onto_some k n behind =
    let rest : length (digit_glyph false (n % 10) ∷ behind) ≤ length (digits_onto k 10 false (n / 10) (digit_glyph false (n % 10) ∷ behind)) = onto_longer k (n / 10) (digit_glyph false (n % 10) ∷ behind) in
    cond_both (nat_eq (n / 10) 0) _ _ (λ (x : List ℕ). length behind < length x) (λ _. omega arith) (λ _. omega arith)

-- of two numbers the lesser is not written longer
lengths_chosen : (b c : Bool) (x y u v : List ℕ) → (b ≡ false → c ≡ true → ⊥) → length x ≤ length u → length x ≤ length v → length y ≤ length v →
    length (cond b x y) ≤ length (cond c u v)
lengths_chosen true true x y u v not xu xv yv = xu
lengths_chosen true false x y u v not xu xv yv = xv
lengths_chosen false true x y u v not xu xv yv = absurd (not refl refl)
lengths_chosen false false x y u v not xu xv yv = yv

onto_monotone : (k m n : ℕ) (one other : List ℕ) → m ≤ n → length one ≡ length other → length (digits_onto k 10 false m one) ≤ length (digits_onto k 10 false n other)
onto_monotone zero m n one other h same = omega arith
onto_monotone (suc k) m n one other h same =
    let first = digit_glyph false (m % 10) ∷ one in
    let second = digit_glyph false (n % 10) ∷ other in
    let falls : m / 10 ≤ n / 10 = omega arith in
    let equal : length first ≡ length second = omega arith in
    let rest : length second ≤ length (digits_onto k 10 false (n / 10) second) = onto_longer k (n / 10) second in
    lengths_chosen (nat_eq (m / 10) 0) (nat_eq (n / 10) 0) first (digits_onto k 10 false (m / 10) first) second (digits_onto k 10 false (n / 10) second)
    (λ not. λ yes. let none : n / 10 ≡ 0 = eqb-true (n / 10) 0 yes in eqb-false (m / 10) 0 not (omega arith))
    (omega arith) (omega arith)
    (onto_monotone k (m / 10) (n / 10) first second falls equal)

decimal_is_number : (n : ℕ) → IsDecimal (decimal n)
unfolding digits
decimal_is_number n = record { some = onto_some 63 n []; digits = onto_digits 64 n [] refl }

pub decimal_no_longer : (m n : ℕ) → m ≤ n → IsNoLongerNumber (decimal m) (decimal n)
unfolding digits
decimal_no_longer m n h = record { small_number = decimal_is_number m; big_number = decimal_is_number n; no_longer = onto_monotone 64 m n [] [] h refl }
