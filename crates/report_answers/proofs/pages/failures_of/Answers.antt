use Rattle.std.proofs.Common.{refl, subst}
use Rattle.failure_report.specs.declared.why.Grouping.TheVariants.{ByCause}
use Rattle.failure_report.specs.Grouped.{IsWhyOfAllBy}
use Rattle.report_answers.proofs.pages.failures_of.Goals as goal

pub returns-in-Reported : goal.returns-in-Reported
returns-in-Reported g c = subst (IsWhyOfAllBy ByCause c.args.core.now.plan c.args.core.now.past) c.in-Reported.is (c.in_ok-text.ensures.all refl)

pub returns-in-Unknown : goal.returns-in-Unknown
returns-in-Unknown g c = absurd (subst (IsWhyOfAllBy ByCause c.args.core.now.plan c.args.core.now.past) c.in-Unknown.is (c.in_ok-text.ensures.all refl))
