use Rattle.dag_main_args.proofs.Worked as worked
use Rattle.dag_main_args.proofs.examples.limits_apart.Goals as goal

pub returns : goal.returns
returns c = worked.limits_apart
