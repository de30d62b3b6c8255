use Rattle.std.proofs.Common.{◌≡◌, filter, take}
use Rattle.run_times.specs.Limits.{counts_run}
use Rattle.run_times.proofs.limits.counted_in.Given as goal

abbrev pub invariant-loop-run : goal.invariant-loop-run
invariant-loop-run l = l.found.items ≡ filter (counts_run l.graph l.counted) (take l.run-index l.runs)
