use Rattle.std.proofs.Common.{◌≡◌, map, take}
use Rattle.failure_report.specs.declared.why.Reported.TheVariants.{Failed}
use Rattle.failure_report.proofs.why.as_reported.Given as goal

abbrev pub invariant-loop-failure : goal.invariant-loop-failure
invariant-loop-failure l = l.reported.items ≡ map Failed (take l.failure-index l.failures)
