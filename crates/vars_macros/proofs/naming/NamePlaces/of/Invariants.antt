use Rattle.std.specs.BTreeMap.{get}
use Rattle.std.specs.Ordering.{nat_cmp}
use Rattle.vars_macros.specs.NamePlaces.{AreNamesOf}
use Rattle.vars_macros.specs.NameTable.{KeepsNumbers}
use Rattle.vars_macros.proofs.naming.NamePlaces.of.Given as goal

abbrev pub invariant-loop-at : goal.invariant-loop-at
invariant-loop-at l = AreNamesOf l.names l.text (get nat_cmp l.places) × KeepsNumbers l.fn.names l.names
