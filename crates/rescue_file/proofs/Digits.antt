-- Numbers from 1 to 999 and the names that they make.
use Rattle.std.proofs.Common.{◌≡◌, ◌≢◌, ℕ, ◌+◌, ◌*◌, ◌/◌, ◌%◌, ◌<◌, ◌≤◌, true, false, nat_eq, List, [], ◌∷◌, ◌++◌, length, take, drop, get_or, Option, None, Some, refl, sym, ap, subst, ◌∙◌, arith, ⊎_elim, Bor, codes, max}
use Rattle.std.proofs.lemmas.Bool.{cases_lt}
use Rattle.std.proofs.lemmas.Bool.Decides.{Decides-eqb}
use Rattle.std.proofs.lemmas.Fmt.{decimal_digit}
use Rattle.std.proofs.lemmas.List.{append_cancel_left, take_more}
use Rattle.std.proofs.lemmas.List.Elements.{Contains-push, Contains-push_cases, Contains-append_left}
use Rattle.std.proofs.lemmas.Slice.Eq.{strip_prefix_is}
use Rattle.std.specs.Cmp.Lexicographic.{pointwise}
use Rattle.std.specs.Fmt.{decimal}
use Rattle.std.specs.List.{Contains}
use Rattle.rescue_file.specs.Numbered.{three_digits, rescue_name_of, IsFound, IsHighest}

-- the digits of equal texts
first_is : (a b c d e f : ℕ) (xs ys : List ℕ) → a ∷ b ∷ c ∷ xs ≡ d ∷ e ∷ f ∷ ys → a ≡ d
first_is a b c d e f xs ys h = cc

second_is : (a b c d e f : ℕ) (xs ys : List ℕ) → a ∷ b ∷ c ∷ xs ≡ d ∷ e ∷ f ∷ ys → b ≡ e
second_is a b c d e f xs ys h = cc

third_is : (a b c d e f : ℕ) (xs ys : List ℕ) → a ∷ b ∷ c ∷ xs ≡ d ∷ e ∷ f ∷ ys → c ≡ f
third_is a b c d e f xs ys h = cc

abbrev NoDigit : ℕ → Type 0
NoDigit digit = (value : ℕ) → value < 10 → 48 + value ≢ digit

module _ (h t u : ℕ) where
  pub no_hundreds : NoDigit h → IsFound three_digits (h ∷ t ∷ u ∷ []) None
  no_hundreds none number is e = none (number / 100) (omega (arith, is.1)) (first_is _ _ _ h t u [] [] e)

  pub no_tens : NoDigit t → IsFound three_digits (h ∷ t ∷ u ∷ []) None
  no_tens none number is e = none (number / 10 % 10) (omega arith) (second_is _ _ _ h t u [] [] e)

  pub no_units : NoDigit u → IsFound three_digits (h ∷ t ∷ u ∷ []) None
  no_units none number is e = none (number % 10) (omega arith) (third_is _ _ _ h t u [] [] e)

  module _ (a b c : ℕ) (ah : 48 + a ≡ h) (bt : 48 + b ≡ t) (cu : 48 + c ≡ u) where
    pub no_zero : 100 * a + 10 * b + c ≡ 0 → IsFound three_digits (h ∷ t ∷ u ∷ []) None
    no_zero zero number is e =
        let x = first_is _ _ _ h t u [] [] e in
        let y = second_is _ _ _ h t u [] [] e in
        let z = third_is _ _ _ h t u [] [] e in
        let low = is.0 in
        let high = is.1 in
        absurd (omega arith)

    pub is_three : a < 10 → b < 10 → c < 10 → 1 ≤ 100 * a + 10 * b + c → IsFound three_digits (h ∷ t ∷ u ∷ []) (Some (100 * a + 10 * b + c))
    is_three al bl cl some =
        let n = 100 * a + 10 * b + c in
        let x : 48 + n / 100 ≡ h = omega arith in
        let y : 48 + n / 10 % 10 ≡ t = omega arith in
        let z : 48 + n % 10 ≡ u = omega arith in
        let high : n ≤ 999 = omega arith in
        ((some, high), rw (x, y, z) refl)

-- bytes that are not three
pub not_three : (digits : List ℕ) → length digits ≢ 3 → IsFound three_digits digits None
not_three digits other number is e = other (sym (ap (λ (ds : List ℕ). length ds) e))

-- What comes after a front.
pub behind : (front name : List ℕ) (spelled : ℕ → List ℕ) (x : Bor (List ℕ)) (o : Option ℕ) → (pointwise nat_eq (take (length front) name) front ≡ true) × (x.now ≡ drop (length front) name) × (length x.now + length front ≡ length name)
    → IsFound spelled x.now o → IsFound (λ number. front ++ spelled number) name o
behind front name spelled x None is none = λ number in' e.
    let split : name ≡ front ++ x.now = strip_prefix_is Decides-eqb name front (Some x) is in
    none number in' (append_cancel_left front (spelled number) x.now (e ∙ split))
behind front name spelled x (Some number) is (in', same) =
    let split : name ≡ front ++ x.now = strip_prefix_is Decides-eqb name front (Some x) is in
    (in', ap (λ (bs : List ℕ). front ++ bs) same ∙ sym split)

pub not_behind : (front name : List ℕ) (spelled : ℕ → List ℕ) → pointwise nat_eq (take (length front) name) front ≡ false → IsFound (λ number. front ++ spelled number) name None
not_behind front name spelled is number in' e = strip_prefix_is Decides-eqb name front None is (spelled number) (sym e)

-- What a number writes.
pub digits_written : (top : List ℕ) (number : ℕ) → number ≤ 999
    → top ++ (codes ".rescue" ++ (decimal (number / 100) ++ (decimal (number / 10 % 10) ++ decimal (number % 10)))) ≡ rescue_name_of top number
digits_written top number high =
    rw (decimal_digit (number / 100) (omega arith), decimal_digit (number / 10 % 10) (omega arith), decimal_digit (number % 10) (omega arith)) refl

-- The highest number so far.
pub none_yet : (top : List ℕ) → IsHighest [] top 0
none_yet top = record { within = omega arith; stands = λ some. absurd (omega arith); above = λ number low high has. absurd (let lt = has.1 in omega arith) }

module _ (names : List (List ℕ)) (top name : List ℕ) (highest : ℕ) (so_far : IsHighest names top highest) where
  pub no_higher : IsFound (rescue_name_of top) name None → IsHighest (names ++ name ∷ []) top highest
  no_higher none = record {
    within = so_far.within;
    stands = λ some. Contains-append_left names (name ∷ []) (rescue_name_of top highest) (so_far.stands some);
    above = λ number low high has. ⊎_elim
        (λ before. so_far.above number low high before)
        (λ here. none number (let one : 1 ≤ number = omega arith in (one, high)) (sym here))
        (Contains-push_cases names name (rescue_name_of top number) has);
  }

-- Two numbers have two names.
one_number : (top : List ℕ) (m n : ℕ) → m ≤ 999 → n ≤ 999 → rescue_name_of top m ≡ rescue_name_of top n → m ≡ n
one_number top m n low high e =
    let digits : three_digits m ≡ three_digits n = append_cancel_left (codes ".rescue") (three_digits m) (three_digits n) (append_cancel_left top (codes ".rescue" ++ three_digits m) (codes ".rescue" ++ three_digits n) e) in
    let x = first_is _ _ _ _ _ _ [] [] digits in
    let y = second_is _ _ _ _ _ _ [] [] digits in
    let z = third_is _ _ _ _ _ _ [] [] digits in
    omega arith

module _ (names : List (List ℕ)) (top name : List ℕ) (highest number : ℕ) (so_far : IsHighest names top highest) (found : IsFound (rescue_name_of top) name (Some number)) where
  -- a higher number than this one doesn't stand there
  none_above : (n : ℕ) → highest < n → number < n → n ≤ 999 → Contains (names ++ name ∷ []) (rescue_name_of top n) → ⊥
  none_above n old new high has =
      ⊎_elim
      (λ before. so_far.above n old high before)
      (λ here. let same = one_number top number n found.0.1 high (found.1 ∙ here) in absurd (omega arith))
      (Contains-push_cases names name (rescue_name_of top n) has)

  pub higher : IsHighest (names ++ name ∷ []) top (max highest number)
  higher =
      ⊎_elim
      (λ (more : highest < number).
      let is : number ≡ max highest number = omega arith in
      subst (IsHighest (names ++ name ∷ []) top) is (record {
        within = found.0.1;
        stands = λ _. subst (Contains (names ++ name ∷ [])) (sym found.1) (Contains-push names name);
        above = λ n low high has. none_above n (omega arith) low high has;
      }))
      (λ (less : number ≤ highest).
      let is : highest ≡ max highest number = omega arith in
      subst (IsHighest (names ++ name ∷ []) top) is (record {
        within = so_far.within;
        stands = λ some. Contains-append_left names (name ∷ []) (rescue_name_of top highest) (so_far.stands some);
        above = λ n low high has. none_above n low (omega arith) high has;
      }))
      (cases_lt highest number)

-- one name more
pub one_more : (names : List (List ℕ)) (i : ℕ) (name : List ℕ) → i < length names → name ≡ get_or names i name → take (i + 1) names ≡ take i names ++ name ∷ []
one_more names i name lt is = take_more names i name lt ∙ ap (λ (n : List ℕ). take i names ++ n ∷ []) (sym is)
