-- Names of rescue files.
use Rattle.std.specs.Prelude.{◌≡◌, ◌≢◌, ℕ, ◌+◌, ◌/◌, ◌%◌, ◌<◌, ◌≤◌, List, [], ◌∷◌, ◌++◌, Option, Some, None, codes}
use Rattle.std.specs.List.{Contains}

-- a number that a rescue file can have
abbrev pub IsFileNumber : ℕ → Type 0
IsFileNumber number = (1 ≤ number) × (number ≤ 999)

-- the last three digits (0 is 48), with leading zeros
abbrev pub three_digits : ℕ → List ℕ
three_digits number = (48 + number / 100) ∷ (48 + number / 10 % 10) ∷ (48 + number % 10) ∷ []

-- `top.rescueNNN`
abbrev pub rescue_name_of : List ℕ → ℕ → List ℕ
rescue_name_of top number = top ++ (codes ".rescue" ++ three_digits number)

-- The number that these bytes spell, or none does.
abbrev pub IsFound : (ℕ → List ℕ) → List ℕ → Option ℕ → Type 0
IsFound spelled bytes None = (number : ℕ) → IsFileNumber number → spelled number ≢ bytes
IsFound spelled bytes (Some number) = IsFileNumber number × (spelled number ≡ bytes)

-- The highest number of a rescue file that is among the names, or 0 where none is there.
pub record IsHighest (names : List (List ℕ)) (top : List ℕ) (highest : ℕ) : Type 0 where
  pub within : highest ≤ 999
  pub stands : 0 < highest → Contains names (rescue_name_of top highest)
  pub above : (number : ℕ) → highest < number → number ≤ 999 → Contains names (rescue_name_of top number) → ⊥
