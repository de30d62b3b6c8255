-- Lists of numbers that rise, and what they contain.
use Rattle.std.proofs.Common.{◌≡◌, ◌⊎◌, inl, inr, ℕ, zero, suc, ◌+◌, ◌<◌, Bool, true, cond, List, [], ◌∷◌, ◌++◌, map, length, get_or, filter, refl, sym, ap, ◌∙◌, subst, arith, map-id}
use Rattle.std.proofs.lemmas.Bool.{cases_Bool, false≢true}
use Rattle.std.proofs.lemmas.List.{length-map, get_or-map}
use Rattle.std.proofs.lemmas.List.FromFn.{length-range_with_len, get_or-range_with_len, map-range_with_len_more}
use Rattle.std.proofs.lemmas.List.Elements.{All-filter, filter_passes, filter-append, Contains-get_or, All-contains}
use Rattle.std.proofs.lemmas.List.Kept.{AllPairs-from_increasing, IsStrictlyIncreasing-filter}
use Rattle.std.specs.List.{All, Contains, range_with_len}
use Rattle.std.specs.List.Sorted.{IsStrictlyIncreasing}

-- what a list contains
pub contains-first : (x : ℕ) (xs : List ℕ) → Contains (x ∷ xs) x
contains-first x xs = (0, omega arith, refl)

pub contains-later : (x : ℕ) (xs : List ℕ) (c : ℕ) → Contains xs c → Contains (x ∷ xs) c
contains-later x xs c (k, low, is) = (suc k, omega arith, is)

pub contains-cases : (x : ℕ) (xs : List ℕ) (c : ℕ) → Contains (x ∷ xs) c → (x ≡ c) ⊎ Contains xs c
contains-cases x xs c (zero, low, is) = inl is
contains-cases x xs c (suc k, low, is) = inr (k, omega arith, is)

contains-none : (c : ℕ) → Contains [] c → ⊥
contains-none c (k, low, is) = omega arith

pub contains-mapped : (f : ℕ → ℕ) (xs : List ℕ) (x : ℕ) → Contains xs x → Contains (map f xs) (f x)
contains-mapped f xs x (k, low, is) = (k, omega (arith, low, length-map xs f), get_or-map f xs k x (f x) low ∙ ap f is)

pub mapped-contains : (f : ℕ → ℕ) (xs : List ℕ) (c : ℕ) → Contains (map f xs) c → (x : ℕ) × Contains xs x × (f x ≡ c)
mapped-contains f xs c (k, low, is) =
    let below : k < length xs = omega (arith, low, length-map xs f) in
    (get_or xs k 0, Contains-get_or xs k 0 below, sym (get_or-map f xs k 0 c below) ∙ is)

pub contains-kept : (p : ℕ → Bool) (xs : List ℕ) (c : ℕ) → p c ≡ true → Contains xs c → Contains (filter p xs) c
contains-kept p [] c passes is = absurd (contains-none c is)
contains-kept p (x ∷ xs) c passes is =
    elim (cases_Bool (p x)) [
      | inl kept ↦ subst (λ (b : Bool). Contains (cond b (x ∷ filter p xs) (filter p xs)) c) (sym kept)
          (elim (contains-cases x xs c is) [
            | inl same ↦ subst (λ (d : ℕ). Contains (x ∷ filter p xs) d) same (contains-first x (filter p xs))
            | inr later ↦ contains-later x (filter p xs) c (contains-kept p xs c passes later)
          ])
      | inr dropped ↦ subst (λ (b : Bool). Contains (cond b (x ∷ filter p xs) (filter p xs)) c) (sym dropped)
          (elim (contains-cases x xs c is) [
            | inl same ↦ absurd (false≢true (sym dropped ∙ ap p same ∙ passes))
            | inr later ↦ contains-kept p xs c passes later
          ])
    ]

-- the first numbers
pub first-below : (n : ℕ) → All (λ m. m < n) (range_with_len 0 n)
first-below n = λ k d low.
    let within : k < n = omega (arith, low, length-range_with_len 0 n) in
    let is : get_or (range_with_len 0 n) k d ≡ 0 + k = get_or-range_with_len 0 n k d within in
    omega arith

pub first-contains : (n c : ℕ) → c < n → Contains (range_with_len 0 n) c
first-contains n c low =
    let is : get_or (range_with_len 0 n) c c ≡ 0 + c = get_or-range_with_len 0 n c c low in
    (c, omega (arith, low, length-range_with_len 0 n), omega arith)

first-rising : (n : ℕ) → IsStrictlyIncreasing (range_with_len 0 n)
first-rising n = λ k low.
    let within : k + 1 < n = omega (arith, low, length-range_with_len 0 n) in
    let one : get_or (range_with_len 0 n) k 0 ≡ 0 + k = get_or-range_with_len 0 n k 0 (omega arith) in
    let two : get_or (range_with_len 0 n) (k + 1) 0 ≡ 0 + (k + 1) = get_or-range_with_len 0 n (k + 1) 0 within in
    omega arith

range-more : (n : ℕ) → range_with_len 0 (n + 1) ≡ range_with_len 0 n ++ n ∷ []
range-more n =
    sym (map-id (range_with_len 0 (n + 1))) ∙ map-range_with_len_more (λ (x : ℕ). x) 0 n n (omega arith)
    ∙ ap (λ (xs : List ℕ). xs ++ n ∷ []) (map-id (range_with_len 0 n))

pub kept-more : (p : ℕ → Bool) (n : ℕ) → filter p (range_with_len 0 (n + 1)) ≡ filter p (range_with_len 0 n) ++ cond (p n) (n ∷ []) []
kept-more p n = ap (filter p) (range-more n) ∙ filter-append p (range_with_len 0 n) (n ∷ [])

-- a list that rises, without its first number
rising-later : (x : ℕ) (xs : List ℕ) → IsStrictlyIncreasing (x ∷ xs) → IsStrictlyIncreasing xs
rising-later x xs rising = λ k low.
    let more : suc k + 1 ≡ suc (k + 1) = omega arith in
    let step : get_or xs k 0 < get_or (x ∷ xs) (suc k + 1) 0 = rising (suc k) (omega arith) in
    subst (λ (m : ℕ). get_or xs k 0 < get_or (x ∷ xs) m 0) more step

rising-above : (x : ℕ) (xs : List ℕ) → IsStrictlyIncreasing (x ∷ xs) → (c : ℕ) → Contains xs c → x < c
rising-above x xs rising c (k, low, is) =
    let pair : x < get_or xs k c = AllPairs-from_increasing (x ∷ xs) rising 0 (suc k) c (omega arith) (omega arith) in
    omega arith

-- two lists that rise and contain the same are one
same-heads : (x y : ℕ) (xs ys : List ℕ) → IsStrictlyIncreasing (x ∷ xs) → IsStrictlyIncreasing (y ∷ ys) → Contains (y ∷ ys) x → Contains (x ∷ xs) y → x ≡ y
same-heads x y xs ys rising_x rising_y there back =
    elim (contains-cases y ys x there) [
      | inl same ↦ sym same
      | inr later ↦ elim (contains-cases x xs y back) [
        | inl same ↦ same
        | inr above ↦ let low = rising-above y ys rising_y x later in let high = rising-above x xs rising_x y above in absurd (omega (arith, low, high))
      ]
    ]

below-heads : (x y : ℕ) (xs ys : List ℕ) → IsStrictlyIncreasing (x ∷ xs) → x ≡ y → ((c : ℕ) → Contains (x ∷ xs) c → Contains (y ∷ ys) c) → (c : ℕ) → Contains xs c → Contains ys c
below-heads x y xs ys rising same there c is =
    elim (contains-cases y ys c (there c (contains-later x xs c is))) [
      | inl head ↦ let low = rising-above x xs rising c is in absurd (omega (arith, low, head, same))
      | inr later ↦ later
    ]

pub same-rising : (xs ys : List ℕ) → IsStrictlyIncreasing xs → IsStrictlyIncreasing ys → ((c : ℕ) → Contains xs c → Contains ys c) → ((c : ℕ) → Contains ys c → Contains xs c) → xs ≡ ys
same-rising [] [] rising_x rising_y there back = refl
same-rising [] (y ∷ ys) rising_x rising_y there back = absurd (contains-none y (back y (contains-first y ys)))
same-rising (x ∷ xs) [] rising_x rising_y there back = absurd (contains-none x (there x (contains-first x xs)))
same-rising (x ∷ xs) (y ∷ ys) rising_x rising_y there back =
    let same : x ≡ y = same-heads x y xs ys rising_x rising_y (there x (contains-first x xs)) (back y (contains-first y ys)) in
    let rest : xs ≡ ys = same-rising xs ys (rising-later x xs rising_x) (rising-later y ys rising_y)
    (below-heads x y xs ys rising_x same there) (below-heads y x ys xs rising_y (sym same) back) in
    λ j. same j ∷ rest j

-- a list that rises and contains the numbers below n that pass a test has just these
pub kept-rising : (xs : List ℕ) (n : ℕ) (p : ℕ → Bool) → IsStrictlyIncreasing xs → ((c : ℕ) → Contains xs c → (c < n) × (p c ≡ true)) → ((c : ℕ) → c < n → p c ≡ true → Contains xs c)
    → xs ≡ filter p (range_with_len 0 n)
kept-rising xs n p rising there back =
    same-rising xs (filter p (range_with_len 0 n)) rising (IsStrictlyIncreasing-filter p (range_with_len 0 n) (first-rising n))
    (λ c is. contains-kept p (range_with_len 0 n) c (there c is).1 (first-contains n c (there c is).0))
    (λ c is. back c (All-contains (λ m. m < n) (filter p (range_with_len 0 n)) c (All-filter p (λ m. m < n) (range_with_len 0 n) (first-below n)) is)
    (All-contains (λ m. p m ≡ true) (filter p (range_with_len 0 n)) c (filter_passes p (range_with_len 0 n)) is))
