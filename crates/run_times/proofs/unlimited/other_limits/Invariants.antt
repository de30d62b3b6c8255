use Rattle.std.proofs.Common.{◌≡◌, filter, take}
use Rattle.run_times.specs.Unlimited.{is_of_other}
use Rattle.run_times.proofs.unlimited.other_limits.Given as goal

abbrev pub invariant-loop-limit : goal.invariant-loop-limit
invariant-loop-limit l = l.others.items ≡ filter (is_of_other l.category) (take l.limit-index l.limits)
