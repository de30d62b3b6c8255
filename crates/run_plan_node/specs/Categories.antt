-- The categories that have a limit, as a table of their names finds them.
use Rattle.std.specs.Prelude.{◌≡◌, ℕ, List, length, position, get_or}
use Rattle.std.specs.Option.{option_map}
use Rattle.std.specs.Str.{bytes_eq}
use Rattle.splices_flat.specs.declared.flat.CategoryLimit.{CategoryLimit}

-- each of these names has a place, and it is that of the first limit of the name; another name has no limit
pub record AreFound (limits : List CategoryLimit) (names : List (List ℕ)) (places : List ℕ) : Type 0 where
  pub each : length places ≡ length names
  pub first : (name : List ℕ) → option_map (λ number. get_or places number 0) (position (bytes_eq name) names) ≡ position (λ limit. bytes_eq name limit.name) limits
