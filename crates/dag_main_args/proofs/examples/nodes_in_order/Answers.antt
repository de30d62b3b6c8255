use Rattle.dag_main_args.proofs.Worked as worked
use Rattle.dag_main_args.proofs.examples.nodes_in_order.Goals as goal

pub returns : goal.returns
returns c = worked.nodes_in_order
