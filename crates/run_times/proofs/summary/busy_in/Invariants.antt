use Rattle.std.proofs.Common.{◌≡◌, take}
use Rattle.run_times.specs.Summary.{busy_in}
use Rattle.run_times.proofs.summary.busy_in.Given as goal

abbrev pub invariant-loop-run : goal.invariant-loop-run
invariant-loop-run l = l.total ≡ busy_in (take l.run-index l.runs)
