-- Where the last assignment of a name is found.
use Rattle.std.specs.Prelude.{◌≡◌, ℕ, ◌<◌, List, map, length, slice_get, Option, Some, None}
use Rattle.vars_macros.specs.Names.{lower}
use Rattle.vars_macros.specs.NamePlaces.{AreNamesOf, name_at}
use Rattle.vars_macros.specs.Meaning.{last_macro}
use Rattle.vars_macros.specs.declared.assignment.Macro.{Macro}
use Rattle.vars_macros.specs.declared.assignment.Assigned.{Assigned}
use Rattle.vars_macros.specs.declared.numbering.Names.{Names}

-- the assignments alone
abbrev pub macros_in : List Assigned → List Macro
macros_in all = map (λ (a : Assigned). a.one) all

-- the assignment at a place, if there is one
abbrev pub at_place : List Macro → Option ℕ → Option Macro
at_place ms None = None
at_place ms (Some k) = slice_get ms k

-- A table of names in lower case has the place of the last assignment of each name.
pub record GivesLast (place : List ℕ → Option ℕ) (ms : List Macro) : Type 0 where
  pub last : (name : List ℕ) → at_place ms (place (lower name)) ≡ last_macro ms name
  pub within : (name : List ℕ) (k : ℕ) → place name ≡ Some k → k < length ms

-- The names of an assignment's value are where its table says, with these numbers.
abbrev pub HasPlaces : Names → Assigned → Type 0
HasPlaces names a = AreNamesOf names a.one.value (name_at a.places)
