use Rattle.std.proofs.Common.{ap, map, ◌∙◌}
use Rattle.failure_report.specs.declared.why.Reported.TheVariants.{Failed}
use Rattle.failure_report.proofs.why.all_failed.Goals as goal

pub returns : goal.returns
returns c = record { failures = c.in_ok-failed.failed.items; are = c.in_ok-failed.ensures; each = c.in_ok-reported.ensures ∙ ap (map Failed) c.deref.ensures.value }
