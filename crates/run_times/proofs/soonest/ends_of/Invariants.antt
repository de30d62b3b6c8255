use Rattle.std.proofs.Common.{◌≡◌, ℕ, ◌<◌, length}
use Rattle.dag_graph.specs.Graph.{rank_in}
use Rattle.run_times.proofs.Ends.{IsEnd}
use Rattle.run_times.proofs.soonest.ends_of.Given as goal

abbrev pub invariant-loop-node : goal.invariant-loop-node
invariant-loop-node l = record {
  each : length l.ends.items ≡ length l.graph.dag.nodes;
  are : (node : ℕ) → node < length l.graph.dag.nodes → rank_in l.graph.order node < l.node-index → IsEnd l.graph l.busy l.ends.items node;
}
