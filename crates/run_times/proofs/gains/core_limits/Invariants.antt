use Rattle.std.proofs.Common.{◌≡◌}
use Rattle.run_times.specs.Gains.{core_limits_after}
use Rattle.run_times.proofs.gains.core_limits.Given as goal

abbrev pub invariant-loop-limit : goal.invariant-loop-limit
invariant-loop-limit l = l.all ≡ core_limits_after l.limits l.limit-index
