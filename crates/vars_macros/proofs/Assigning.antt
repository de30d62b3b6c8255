-- Assignments and the table of their names.
use Rattle.std.proofs.Common.{◌≡◌, ◌∙◌, sym, ap, subst, ℕ, List, [], ◌∷◌, ◌++◌, true, length}
use Rattle.std.specs.Str.{IsUtf8}
use Rattle.vars_macros.specs.Each.{Each}
use Rattle.vars_macros.specs.Names.{lower}
use Rattle.vars_macros.specs.NamePlaces.{name_at}
use Rattle.vars_macros.specs.NameTable.{number_of_name, place_in, IsGiven, KeepsNumbers}
use Rattle.vars_macros.specs.Places.{macros_in, at_place, GivesLast, HasPlaces}
use Rattle.vars_macros.specs.Texts.{are_texts}
use Rattle.vars_macros.specs.declared.assignment.Macro.{Macro}
use Rattle.vars_macros.specs.declared.assignment.Assigned.{Assigned}
use Rattle.vars_macros.specs.declared.numbering.Names.{Names}
use Rattle.vars_macros.proofs.MacroTexts.{one_more}
use Rattle.vars_macros.proofs.NamesIn.{names_kept}
use Rattle.vars_macros.proofs.NameTables.{each_push}
use Rattle.vars_macros.proofs.Places.{gives_push, macros_push}

-- what holds of the assignments of a node and of the table of their names
abbrev pub AreKnown : Names → List Assigned → Type 0
AreKnown names all = (are_texts (macros_in all) ≡ true) × GivesLast (place_in names) (macros_in all) × Each (HasPlaces names) all

pub places_kept : (old new : Names) (all : List Assigned) → KeepsNumbers old new → Each (HasPlaces old) all → Each (HasPlaces new) all
places_kept old new all keeps each k a at = names_kept old new a.one.value (name_at a.places) keeps (each k a at)

pub last_kept : (old new : Names) (ms : List Macro) → KeepsNumbers old new → GivesLast (place_in old) ms → GivesLast (place_in new) ms
last_kept old new ms keeps gives = record {
  last = λ name. ap (at_place ms) (keeps.places (lower name)) ∙ gives.last name;
  within = λ name k is. gives.within name k (sym (keeps.places name) ∙ is);
}

-- More names are known.
pub known_kept : (old new : Names) (all same : List Assigned) → same ≡ all → KeepsNumbers old new → AreKnown old all → AreKnown new same
known_kept old new all same is keeps known =
    subst (AreKnown new) (sym is) (known.0, last_kept old new (macros_in all) keeps known.1, places_kept old new all keeps known.2)

-- One assignment more is known: before is the table with its names, and after the one with its place.
pub known_push : (a : Assigned) (old before after : Names) (all mid new : List Assigned) (place : ℕ) → mid ≡ all → new ≡ mid ++ a ∷ [] → place ≡ length (macros_in all) →
    KeepsNumbers old before → AreKnown old all → IsUtf8 a.one.value → HasPlaces before a → ((key : List ℕ) → number_of_name after key ≡ number_of_name before key) →
    IsGiven (place_in before) (place_in after) (lower a.one.name) place → AreKnown after new
known_push a old before after all mid new place unmoved pushed at keeps known utf8 has same given =
    let is : new ≡ all ++ a ∷ [] = pushed ∙ ap (λ (xs : List Assigned). xs ++ a ∷ []) unmoved in
    let macros : macros_in new ≡ macros_in all ++ a.one ∷ [] = macros_push all new a is in
    let each : Each (HasPlaces before) (all ++ a ∷ []) = each_push (HasPlaces before) all a (places_kept old before all keeps known.2) has in
    let gives : GivesLast (place_in after) (macros_in all ++ a.one ∷ []) =
    gives_push (place_in before) (place_in after) (macros_in all) a.one (last_kept old before (macros_in all) keeps known.1)
    (subst (IsGiven (place_in before) (place_in after) (lower a.one.name)) at given) in
    let renumbered : (x : Assigned) → HasPlaces before x → HasPlaces after x = λ x places k name found.
    let base = places k name found in
    record { within = base.within; lawful = base.lawful; numbered = same _ ∙ base.numbered } in (
      ap are_texts macros ∙ one_more (macros_in all) a.one known.0 utf8,
      subst (GivesLast (place_in after)) (sym macros) gives,
      subst (Each (HasPlaces after)) (sym is) (λ k x found. renumbered x (each k x found)),
    )
