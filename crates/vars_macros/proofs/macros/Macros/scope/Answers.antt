use Rattle.std.proofs.Common.{◌∙◌, ap, sym, subst, List}
use Rattle.vars_macros.specs.Each.{Each}
use Rattle.vars_macros.specs.NameTable.{place_in}
use Rattle.vars_macros.specs.Places.{macros_in, GivesLast, HasPlaces}
use Rattle.vars_macros.specs.Texts.{are_texts}
use Rattle.vars_macros.specs.declared.assignment.Assigned.{Assigned}
use Rattle.vars_macros.proofs.MacroTexts.{all_texts}
use Rattle.vars_macros.proofs.macros.Macros.scope.Goals as goal

pub invariant_of-result-clause-last : goal.invariant_of-result-clause-last
invariant_of-result-clause-last c =
    subst (λ (all : List Assigned). GivesLast (place_in c.self.inside.names) (macros_in all)) (sym c.as_slice.ensures.value) c.self.invariant.1

pub invariant_of-result-clause-places : goal.invariant_of-result-clause-places
invariant_of-result-clause-places c =
    subst (Each (HasPlaces c.self.inside.names)) (sym c.as_slice.ensures.value) c.self.invariant.2

pub returns-clause-texts : goal.returns-clause-texts
returns-clause-texts c = record {
  assigned = all_texts (macros_in c.as_slice.result.now) (ap (λ (all : List Assigned). are_texts (macros_in all)) c.as_slice.ensures.value ∙ c.self.invariant.0);
  job = c.as_bytes.ensures.utf8;
  retry = c.as_bytes-2.ensures.utf8;
  launch = c.as_bytes-3.ensures.utf8;
}
