use Rattle.std.proofs.Common.{◌≡◌, take}
use Rattle.run_times.specs.Soonest.{greatest_time}
use Rattle.run_times.proofs.soonest.greatest_time.Given as goal

abbrev pub invariant-loop-number : goal.invariant-loop-number
invariant-loop-number l = l.most ≡ greatest_time (take l.number-index l.numbers)
