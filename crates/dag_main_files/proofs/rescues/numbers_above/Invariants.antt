use Rattle.std.proofs.Common.{◌-◌}
use Rattle.dag_main_files.proofs.Above.{AreFound}
use Rattle.dag_main_files.proofs.rescues.numbers_above.Given as goal

abbrev pub invariant-loop-number : goal.invariant-loop-number
invariant-loop-number l = AreFound l.names l.top l.from l.number l.numbers.items

abbrev pub decreases-loop-number : goal.decreases-loop-number
decreases-loop-number l = l.number - l.from
