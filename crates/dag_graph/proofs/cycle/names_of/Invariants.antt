use Rattle.std.proofs.Common.{◌≡◌, map, take}
use Rattle.dag_graph.specs.Graph.{name_of}
use Rattle.dag_graph.proofs.cycle.names_of.Given as goal

abbrev pub invariant-loop-node : goal.invariant-loop-node
invariant-loop-node l = l.names ≡ map (name_of l.dag) (take l.node-index l.nodes)
