use Rattle.std.proofs.Common.{◌≡◌}
use Rattle.run_times.specs.Load.{most_running}
use Rattle.run_times.proofs.load.most_running.Given as goal

abbrev pub invariant-loop-run : goal.invariant-loop-run
invariant-loop-run l = l.most ≡ most_running l.runs l.run-index
