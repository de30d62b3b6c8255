use Rattle.std.proofs.Common.{take}
use Rattle.run_times.specs.Totals.{AreTotals}
use Rattle.run_times.proofs.kinds.totals_of.Given as goal

abbrev pub invariant-loop-run : goal.invariant-loop-run
invariant-loop-run l = AreTotals l.graph (take l.run-index l.runs) l.totals
