use Rattle.std.proofs.Common.{subst}
use Rattle.sched_core.specs.Core.{Progress}
use Rattle.sched_core.specs.Choices.{IsChoice}
use Rattle.job_starter_drive.proofs.records.chosen.Goals as goal

pub returns : goal.returns
returns g c = subst (λ (p : Progress). IsChoice p.limits p.plan p.past c.choose.result) c.core.ensures.lends c.choose.ensures
