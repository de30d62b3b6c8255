use Rattle.std.proofs.Common.{◌∙◌, sym, subst, List, ℕ}
use Rattle.vars_macros.specs.NamePlaces.{AreNamesOf, name_at}
use Rattle.vars_macros.proofs.assignment.Assigned.value.Goals as goal

pub whole-requires-clause-names : goal.whole-requires-clause-names
whole-requires-clause-names c =
    subst (λ (text : List ℕ). AreNamesOf c.args.names.now text (name_at c.args.self.now.places)) (sym (c.as_bytes-text.ensures.value ∙ c.as_str.ensures)) c.requires
