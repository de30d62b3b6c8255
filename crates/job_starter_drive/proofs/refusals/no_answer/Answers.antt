use Rattle.job_starter_drive.specs.Causes.{asking_refused, waiting_refused}
use Rattle.job_starter_drive.proofs.refusals.no_answer.Goals as goal

pub returns-clause-asked : goal.returns-clause-asked
returns-clause-asked c = asking_refused c.raise.ensures.one_more

pub returns-clause-waited : goal.returns-clause-waited
returns-clause-waited c = λ call_log. waiting_refused c.raise.ensures.one_more
