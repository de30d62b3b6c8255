-- What a text reads as.
use Rattle.std.proofs.Common.{◌≡◌, ◌∷◌, [], ◌<◌, ◌^◌, ◌&&◌, ℕ, Bool, List, Option, Some, None, true, false, refl, sym, ap, nat_lt}
use Rattle.std.specs.Prelude.{Result, option_and_then, unwrap_or}
use Rattle.std.specs.Option.{option_map_or}
use Rattle.std.specs.List.{list_all}
use Rattle.std.specs.Char.{digit_value}
use Rattle.std.specs.Str.{bytes_eq}
use Rattle.std.specs.Str.Parse.{AllDigits, ExplainsUnsignedError, HasUnsignedDigitsIfOk, IsNumeral, ParsesBool, ParsesUnsigned, digits_value, true_text, without_leading_plus}
use Rattle.std.specs.declared.num.ParseIntError.{ParseIntError}
use Rattle.std.specs.declared.str.ParseBoolError.{ParseBoolError}
use Rattle.std.proofs.lemmas.Bool.{lt-ltb, ltb-true}
use Rattle.std.proofs.lemmas.Slice.Eq.{bytes_eq-Decides}
use Rattle.clap.specs.Words.{ReadsOne, Text}
use Rattle.clap.specs.ValueTests.{is_numeral}
use Rattle.clap.proofs.WalkLemmas.{both}
use Rattle.dag_main_args.specs.Matched.{decimal_in}

-- what `parse` says at an unsigned type of k bits
abbrev Gives : ℕ → List ℕ → Result ℕ ParseIntError → Type 0
Gives k bs r = ParsesUnsigned k 10 bs r × ExplainsUnsignedError 10 bs r × HasUnsignedDigitsIfOk bs r

digits_back : (ds : List ℕ) → AllDigits 10 ds → list_all (λ d. nat_lt (digit_value d) 10) ds ≡ true
digits_back [] h = refl
digits_back (d ∷ ds) h = rw (lt-ltb (digit_value d) 10 h.0) (digits_back ds h.1)

digits_from : (ds : List ℕ) → list_all (λ d. nat_lt (digit_value d) 10) ds ≡ true → AllDigits 10 ds
digits_from [] e = tt
digits_from (d ∷ ds) e =
    let parts = both _ _ e in
    (ltb-true _ _ parts.0, digits_from ds parts.1)

abbrev fits : ℕ → List ℕ → Bool
fits k t = is_numeral (without_leading_plus t) && nat_lt (digits_value 10 (without_leading_plus t)) (2 ^ k)

fits_back : (k : ℕ) (t : List ℕ) → IsNumeral 10 (without_leading_plus t) → digits_value 10 (without_leading_plus t) < 2 ^ k → fits k t ≡ true
fits_back k t h l = rw (lt-ltb _ _ h.0, digits_back _ h.1, lt-ltb _ _ l) refl

fits_from : (k : ℕ) (t : List ℕ) → fits k t ≡ true → IsNumeral 10 (without_leading_plus t) × (digits_value 10 (without_leading_plus t) < 2 ^ k)
fits_from k t e =
    let parts = both _ _ e in
    let num = both _ _ parts.0 in
    ((ltb-true _ _ num.0, digits_from _ num.1), ltb-true _ _ parts.1)

read_one : (k : ℕ) (t : List ℕ) (r : Option ℕ) → ReadsOne (Gives k) t r → r ≡ decimal_in k t
read_one k t (Some n) h = rw (fits_back k t h.0.0.0 h.0.0.1) (ap Some h.0.1)
read_one k t None h = go (fits k t) refl
  where
    go : (b : Bool) → fits k t ≡ b → None ≡ decimal_in k t
    go true e = absurd (h.1.0 (fits_from k t e))
    go false e = rw e refl

-- a number of k bits, as it was read of the text that an option has
pub number_read : (k : ℕ) (o : Option Text) (r : Option ℕ) → (o ≡ None → r ≡ None) → ((t : Text) → o ≡ Some t → ReadsOne (Gives k) t r)
    → r ≡ option_and_then (decimal_in k) o
number_read k None r none some = none refl
number_read k (Some t) r none some = read_one k t r (some t refl)

abbrev GivesFlag : List ℕ → Result Bool ParseBoolError → Type 0
GivesFlag bs r = ParsesBool bs r

abbrev reads_true : Text → Bool
reads_true text = bytes_eq text true_text

flag_one : (t : List ℕ) (r : Option Bool) → ReadsOne GivesFlag t r → unwrap_or r false ≡ reads_true t
flag_one t (Some true) h = sym ((bytes_eq-Decides t true_text).1 h)
flag_one t (Some false) h = rw h refl
flag_one t None h = go (reads_true t) refl
  where
    go : (b : Bool) → reads_true t ≡ b → false ≡ reads_true t
    go true e = absurd (h.1.0 ((bytes_eq-Decides t true_text).0 e))
    go false e = sym e

-- a flag, as it was read of the text that it has
pub flag_read : (o : Option Text) (r : Option Bool) → (o ≡ None → r ≡ None) → ((t : Text) → o ≡ Some t → ReadsOne GivesFlag t r)
    → unwrap_or r false ≡ option_map_or reads_true o false
flag_read None r none some = rw (none refl) refl
flag_read (Some t) r none some = flag_one t r (some t refl)
