use Rattle.dag_graph.specs.Graph.{rank_in}
use Rattle.dag_graph.proofs.Ancestors.{ranked_acyclic}
use Rattle.dag_graph.proofs.graph.Graph.build.Goals as goal

pub returns-clause-acyclic : goal.returns-clause-acyclic
returns-clause-acyclic c = ranked_acyclic (rank_in c.in_ok-order.order.items) c.args.dag.edges c.in_ok-order.ensures.order.ranked
