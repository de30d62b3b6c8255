use Rattle.std.proofs.Common.{◌≡◌}
use Rattle.serde_json.specs.View.{items_view}
use Rattle.dag_main_inspect.specs.StatusData.{nodes_data}
use Rattle.dag_main_inspect.proofs.status_data.nodes_of.Given as goal

abbrev pub invariant-loop-node : goal.invariant-loop-node
invariant-loop-node l = items_view l.nodes.items ≡ nodes_data l.core.plan l.core.past l.node
