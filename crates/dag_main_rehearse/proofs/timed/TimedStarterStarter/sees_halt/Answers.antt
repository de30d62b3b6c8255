use Rattle.job_starter_drive.specs.Calls.{as_before}
use Rattle.dag_main_rehearse.proofs.timed.TimedStarterStarter.sees_halt.Goals as goal

pub returns-clause-asked : goal.returns-clause-asked
returns-clause-asked c = as_before
