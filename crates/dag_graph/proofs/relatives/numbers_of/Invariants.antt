use Rattle.std.proofs.Common.{◌≡◌, take}
use Rattle.dag_graph.proofs.relatives.numbers_of.Given as goal

abbrev pub invariant-loop-node : goal.invariant-loop-node
invariant-loop-node l = l.numbers ≡ take l.node-index l.nodes
