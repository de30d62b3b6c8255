use Rattle.std.proofs.Common.{rules}
use Rattle.job_starter_drive.proofs.Steps.{open-begun}
use Rattle.job_starter_drive.proofs.records.goes_on.Goals as goal

pub returns : goal.returns
returns g c = open-begun _ (search rules) (search rules)
