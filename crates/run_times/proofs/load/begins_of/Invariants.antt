use Rattle.std.proofs.Common.{◌≡◌, map, take}
use Rattle.run_times.proofs.load.begins_of.Given as goal

abbrev pub invariant-loop-run : goal.invariant-loop-run
invariant-loop-run l = l.times.items ≡ map (λ run. run.begun) (take l.run-index l.runs)
