use Rattle.dag_main_args.proofs.Worked as worked
use Rattle.dag_main_args.proofs.examples.version_shown.Goals as goal

pub returns : goal.returns
returns c = worked.version_alone_shown
