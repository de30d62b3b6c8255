use Rattle.std.proofs.Common.{◌≡◌, filter, take}
use Rattle.run_times.specs.Gains.{was_full}
use Rattle.run_times.proofs.gains.full_limits.Given as goal

abbrev pub invariant-loop-limit : goal.invariant-loop-limit
invariant-loop-limit l = l.full.items ≡ filter (was_full l.graph l.runs) (take l.limit-index l.limits)
