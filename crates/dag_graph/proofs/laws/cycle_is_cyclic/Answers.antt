use Rattle.dag_graph.proofs.Ancestors.{cycle_cyclic}
use Rattle.dag_graph.proofs.laws.cycle_is_cyclic.Goals as goal

pub returns : goal.returns
returns c = cycle_cyclic
