use Rattle.std.proofs.Common.{◌≡◌, map, take}
use Rattle.run_times.specs.Slots.{run_end}
use Rattle.run_times.proofs.load.ends_of.Given as goal

abbrev pub invariant-loop-run : goal.invariant-loop-run
invariant-loop-run l = l.times.items ≡ map run_end (take l.run-index l.runs)
