use Rattle.dag_graph.proofs.Ancestors.{ranked_acyclic}
use Rattle.dag_graph.proofs.laws.ranked_is_acyclic.Goals as goal

pub returns : goal.returns
returns c = ranked_acyclic
