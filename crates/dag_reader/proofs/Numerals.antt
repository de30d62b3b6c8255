-- What `parse` reads as an `i32`.
use Rattle.std.proofs.Common.{◌≡◌, ℕ, zero, suc, ◌≤◌, ◌^◌, ◌-◌, Bool, true, false, cond, ◌&&◌, List, length, Some, Result, Ok, Err, refl, ap, arith, ⊎_elim}
use Rattle.std.proofs.lemmas.Bool.{lt-ltb, le-leb, ltb-true, leb-true, cases_Bool, false≢true}
use Rattle.std.proofs.lemmas.Str.Parse.{IsNumeralModel, numerals_by_value, tells_all_ascii_digits}
use Rattle.std.specs.Int.{w32}
use Rattle.std.specs.Result.{result_ok}
use Rattle.std.specs.Str.{all_ascii_digits}
use Rattle.std.specs.Str.Parse.{ParsesSigned, IsNumeral, digits_value, signed_digits_value, without_leading_sign, starts_with_minus}
use Rattle.std.specs.Prelude.{ℤ, pos, neg_ℤ, FitsSigned, nat_lt}
use Rattle.dag_reader.specs.Numbers.{integer, is_i32}

own : IsNumeralModel (λ ds. all_ascii_digits ds ≡ true) (digits_value 10)
own = numerals_by_value _ tells_all_ascii_digits

-- a number of this size fits with this sign just where it is at most the bound
fits_to : (minus : Bool) (n : ℕ) → FitsSigned w32 (cond minus (neg_ℤ (pos n)) (pos n)) → n ≤ cond minus (2 ^ 31) (2 ^ 31 - 1)
fits_to true zero f = omega arith
fits_to true (suc n) f = omega (arith, f)
fits_to false n f = omega (arith, f)

fits_from : (minus : Bool) (n : ℕ) → n ≤ cond minus (2 ^ 31) (2 ^ 31 - 1) → FitsSigned w32 (cond minus (neg_ℤ (pos n)) (pos n))
fits_from true zero le = omega arith
fits_from true (suc n) le = omega arith
fits_from false n le = omega arith

all_three : (a b c : Bool) → (a && (b && c)) ≡ true → (a ≡ true) × (b ≡ true) × (c ≡ true)
all_three true true true e = (refl, refl, refl)
all_three true true false e = absurd (false≢true e)
all_three true false c e = absurd (false≢true e)
all_three false b c e = absurd (false≢true e)

spelled : (bs : List ℕ) → IsNumeral 10 (without_leading_sign bs) → FitsSigned w32 (signed_digits_value 10 bs) → is_i32 bs ≡ true
spelled bs numeral fits =
    let ds = without_leading_sign bs in
    let some : nat_lt 0 (length ds) ≡ true = lt-ltb 0 (length ds) numeral.0 in
    let digits : all_ascii_digits ds ≡ true = own.from ds numeral.1 in
    let small = le-leb _ _ (fits_to (starts_with_minus bs) (digits_value 10 ds) fits) in
    cc

unspelled : (bs : List ℕ) → is_i32 bs ≡ true → IsNumeral 10 (without_leading_sign bs) × FitsSigned w32 (signed_digits_value 10 bs)
unspelled bs e =
    let p = all_three _ _ _ e in
    ((ltb-true _ _ p.0, own.to _ p.1), fits_from (starts_with_minus bs) _ (leb-true _ _ p.2))

pub integer_is : {E : Type 0} (bs : List ℕ) (r : Result ℤ E) → ParsesSigned w32 10 bs r → result_ok r ≡ integer bs
unfolding integer
integer_is bs (Ok x) h = rw (spelled bs h.0.0 h.0.1) (ap Some h.1)
integer_is bs (Err e) h =
    ⊎_elim
    (λ yes. let p = unspelled bs yes in absurd (h p))
    (λ other. rw other refl)
    (cases_Bool (is_i32 bs))
