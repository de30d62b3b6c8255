use Rattle.job_starter_drive.proofs.Scripts.{one-script}
use Rattle.job_starter_drive.proofs.laws.one_script.Goals as goal

pub returns : goal.returns
returns c = one-script
