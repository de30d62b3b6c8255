use Rattle.std.proofs.Common.{sym, subst}
use Rattle.vars_macros.specs.Each.{Each}
use Rattle.vars_macros.specs.Places.{HasPlaces}
use Rattle.vars_macros.proofs.macros.Macros.last.Goals as goal

pub last_assigned-requires-clause-places : goal.last_assigned-requires-clause-places
last_assigned-requires-clause-places c = subst (Each (HasPlaces c.self.inside.names)) (sym c.as_slice.ensures.value) c.self.invariant.2
