-- Names with their numbers, and with the places of what was assigned to them last.
use Rattle.std.specs.Prelude.{◌≡◌, ℕ, List, [], slice_get, Option, Some, None, unwrap_or, string_bytes, if◌then◌else◌}
use Rattle.std.specs.HashMap.{get_by_text}
use Rattle.std.specs.Str.{bytes_eq}
use Rattle.vars_macros.specs.Names.{lower}
use Rattle.vars_macros.specs.declared.numbering.Names.{Names}
use Rattle.vars_macros.specs.declared.key.Key.{Key}
use Rattle.vars_macros.specs.declared.key.Key.TheVariants.{Numbered, Spelled}

-- the number of a name, which is in lower case
abbrev pub number_of_name : Names → List ℕ → Option ℕ
number_of_name names key = get_by_text names.numbers key

abbrev pub last_at : List (Option ℕ) → Option ℕ → Option ℕ
last_at places None = None
last_at places (Some number) = unwrap_or (slice_get places number) None

-- the place of what was assigned to it last
abbrev pub place_in : Names → List ℕ → Option ℕ
place_in names key = last_at names.last.items (number_of_name names key)

-- All names keep their numbers, and nothing was assigned; more may have numbers.
pub record KeepsNumbers (old new : Names) : Type 0 where
  pub numbers : (key : List ℕ) (n : ℕ) → number_of_name old key ≡ Some n → number_of_name new key ≡ Some n
  pub places : (key : List ℕ) → place_in new key ≡ place_in old key

-- A name gets the place of one assignment more.
abbrev pub IsGiven : (before after : List ℕ → Option ℕ) → List ℕ → ℕ → Type 0
IsGiven before after key place = (name : List ℕ) → after name ≡ (if bytes_eq key name then Some place else before name)

-- The two tables have the same numbers.
abbrev pub HaveSameNumbers : Names → Names → Type 0
HaveSameNumbers a b = (key : List ℕ) → number_of_name a key ≡ number_of_name b key

-- what a key gives: the number, or the bytes
abbrev pub key_parts : Key → Option ℕ × List ℕ
key_parts (Numbered number) = (Some number, [])
key_parts (Spelled bytes) = (None, string_bytes bytes)

abbrev pub told_of : List ℕ → Option ℕ → Option ℕ × List ℕ
told_of lowered None = (None, lowered)
told_of lowered (Some number) = (Some number, [])

-- A name is known by its number, or by its bytes in lower case where it has none.
abbrev pub IsKeyOf : Names → List ℕ → Key → Type 0
IsKeyOf names name key = key_parts key ≡ told_of (lower name) (number_of_name names (lower name))
