use Rattle.std.proofs.Common.{take, string_bytes}
use Rattle.failure_report.specs.Grouped.{HasGroups}
use Rattle.failure_report.proofs.why.text_of_groups.Given as goal

abbrev pub invariant-loop-group : goal.invariant-loop-group
invariant-loop-group g l = HasGroups l.run.core.now.plan (take l.group-index l.groups) (string_bytes l.text)
