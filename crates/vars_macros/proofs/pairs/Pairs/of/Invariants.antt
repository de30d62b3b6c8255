use Rattle.std.specs.BTreeMap.{get}
use Rattle.std.specs.Ordering.{nat_cmp}
use Rattle.vars_macros.proofs.Closers.{ArePairsFrom}
use Rattle.vars_macros.proofs.pairs.Pairs.of.Given as goal

abbrev pub invariant-loop-at : goal.invariant-loop-at
invariant-loop-at l = ArePairsFrom l.text l.at l.unpaired.items (get nat_cmp l.closers)
