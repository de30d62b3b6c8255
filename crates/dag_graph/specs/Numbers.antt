-- Lists of numbers of nodes.
use Rattle.std.specs.Prelude.{◌≡◌, ℕ, ◌-◌, ◌<◌, Bool, ◌==◌, List, [], length, map, slice_get, slice_index_or, filter, Some}
use Rattle.std.specs.List.{list_any, flat_map, range_with_len}

-- whether a number is in a list
abbrev pub has : List ℕ → ℕ → Bool
has numbers number = list_any (λ m. m == number) numbers

-- a list ends in a number
abbrev pub IsLast : List ℕ → ℕ → Type 0
IsLast numbers number = slice_get numbers (length numbers - 1) ≡ Some number

-- each number in the lists is below this one
abbrev pub AreBelow : ℕ → List (List ℕ) → Type 0
AreBelow count lists = (v k : ℕ) → v < length lists → k < length (slice_index_or lists v []) → slice_index_or (slice_index_or lists v []) k 0 < count

-- the numbers below a bound of the lists that hold a number
abbrev pub holders_below : ℕ → List (List ℕ) → ℕ → List ℕ
holders_below bound lists number = filter (λ v. has (slice_index_or lists v []) number) (range_with_len 0 bound)

-- the numbers of the lists that hold a number
abbrev pub holders_of : List (List ℕ) → ℕ → List ℕ
holders_of lists number = holders_below (length lists) lists number

-- the numbers in the lists at these places, as often
abbrev pub named : List (List ℕ) → List ℕ → List ℕ
named lists places = flat_map (λ place. slice_index_or lists place []) places

abbrev pub all_named : List (List ℕ) → List (List ℕ) → List (List ℕ)
all_named lists places = map (named lists) places
