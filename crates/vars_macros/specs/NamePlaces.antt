-- The names that are in a text, and where they begin.
use Rattle.std.specs.Prelude.{◌≡◌, ℕ, ◌+◌, ◌≤◌, true, List, length, take, drop, Option, Some, None}
use Rattle.std.specs.BTreeMap.{get}
use Rattle.std.specs.Ordering.{nat_cmp}
use Rattle.vars_macros.specs.Names.{lower, is_reference_name}
use Rattle.vars_macros.specs.NameTable.{number_of_name}
use Rattle.vars_macros.specs.declared.numbering.Names.{Names}
use Rattle.vars_macros.specs.declared.naming.Name.{Name}
use Rattle.vars_macros.specs.declared.naming.NamePlaces.{NamePlaces}

-- the name that begins at this place
abbrev pub name_at : NamePlaces → ℕ → Option Name
name_at places at = get nat_cmp places.names at

-- A text begins with a name that a reference may have, and these are its length and its number.
pub record IsNameOf (names : Names) (text : List ℕ) (name : Name) : Type 0 where
  pub within : name.len ≤ length text
  pub lawful : is_reference_name (take name.len text) ≡ true
  pub numbered : number_of_name names (lower (take name.len text)) ≡ Some name.number

-- Each of these names is in the text at its place.
abbrev pub AreNamesOf : Names → List ℕ → (ℕ → Option Name) → Type 0
AreNamesOf names text table = (at : ℕ) (name : Name) → table at ≡ Some name → IsNameOf names (drop at text) name

-- The same of a part of a text that starts at this place of it: those that it has to their ends.
abbrev pub AreNamesIn : Names → ℕ → List ℕ → (ℕ → Option Name) → Type 0
AreNamesIn names start part table =
    (k : ℕ) (name : Name) → table (start + k) ≡ Some name → k + name.len ≤ length part → IsNameOf names (drop k part) name

-- the name at a place by this table, or by none
abbrev pub name_at_place : Option NamePlaces → ℕ → Option Name
name_at_place None at = None
name_at_place (Some places) at = name_at places at
