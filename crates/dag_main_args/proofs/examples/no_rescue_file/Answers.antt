use Rattle.dag_main_args.proofs.Worked as worked
use Rattle.dag_main_args.proofs.examples.no_rescue_file.Goals as goal

pub returns : goal.returns
returns c = worked.no_rescue_file
