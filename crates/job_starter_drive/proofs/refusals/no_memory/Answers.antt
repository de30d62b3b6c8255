use Rattle.job_starter_drive.specs.Causes.{start_had_no_memory}
use Rattle.job_starter_drive.proofs.refusals.no_memory.Goals as goal

pub returns-clause-refused : goal.returns-clause-refused
returns-clause-refused c = start_had_no_memory c.raise.ensures.one_more
