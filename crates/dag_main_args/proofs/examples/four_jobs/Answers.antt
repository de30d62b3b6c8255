use Rattle.dag_main_args.proofs.Worked as worked
use Rattle.dag_main_args.proofs.examples.four_jobs.Goals as goal

pub returns : goal.returns
returns c = worked.four_jobs
