use Rattle.run_times.specs.Limits.{AreRoundLimits}
use Rattle.run_times.proofs.limits.category_limits.Given as goal

abbrev pub invariant-loop-category : goal.invariant-loop-category
invariant-loop-category l = AreRoundLimits l.graph l.limits.items
