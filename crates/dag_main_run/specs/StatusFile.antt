-- The file into which the status of a run is written.
use Rattle.std.specs.Prelude.{◌≡◌, ◌≢◌, ◌≤◌, ◌++◌, ℕ, Bool, true, false, List, [], ◌∷◌, codes}

-- What may be inside a JSON string from a place on, to its end, where the byte before that place is a backslash that escapes what follows, or is none: no control
-- character, and no quotation mark but one that is escaped.
pub data IsInside : Bool → List ℕ → Type 0 where
  inside_over : IsInside false []
  inside_plain : (byte : ℕ) (rest : List ℕ) → 32 ≤ byte → byte ≢ 34 → byte ≢ 92 → IsInside false rest → IsInside false (byte ∷ rest)
  inside_backslash : (rest : List ℕ) → IsInside true rest → IsInside false (92 ∷ rest)
  inside_escaped : (byte : ℕ) (rest : List ℕ) → 32 ≤ byte → IsInside false rest → IsInside true (byte ∷ rest)

-- one of the two begins with the other
pub data BeginAlike (bytes wanted : List ℕ) : Type 0 where
  wanted_first : (rest : List ℕ) → bytes ≡ wanted ++ rest → BeginAlike bytes wanted
  bytes_first : (rest : List ℕ) → wanted ≡ bytes ++ rest → BeginAlike bytes wanted

-- what is after the path of the DAG file, from the quotation mark on, is of a status, as far as it goes: the first node, or none
pub data IsAfterPath (after : List ℕ) : Type 0 where
  first_node : BeginAlike after (codes "\",\"nodes\":[{\"attempts\":") → IsAfterPath after
  no_node : BeginAlike after (codes "\",\"nodes\":[]}") → IsAfterPath after
