use Rattle.std.proofs.Common.{take}
use Rattle.failure_report.specs.Grouped.{AreGroupsOf}
use Rattle.failure_report.proofs.groups.groups_of.Given as goal

abbrev pub invariant-loop-failure : goal.invariant-loop-failure
invariant-loop-failure g l = AreGroupsOf (take l.failure-index l.failures) l.groups.items
