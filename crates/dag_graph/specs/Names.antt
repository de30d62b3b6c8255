-- Names with their numbers.
use Rattle.std.specs.Prelude.{◌≡◌, ℕ, List, Option, Some, None, position, if◌then◌else◌}
use Rattle.std.specs.Option.{option_or}
use Rattle.std.specs.Str.{bytes_eq}

-- a table of names gives the place of each among these names, the first one where it is there more than once
abbrev pub GivesPlaces : (List ℕ → Option ℕ) → List (List ℕ) → Type 0
GivesPlaces get names = (name : List ℕ) → get name ≡ position (bytes_eq name) names

-- what is known of a name once another one has a number, where that was unknown
abbrev pub with_name : (List ℕ → Option ℕ) → List ℕ → ℕ → List ℕ → Option ℕ
with_name get new number name = option_or (get name) (if bytes_eq name new then Some number else None)
