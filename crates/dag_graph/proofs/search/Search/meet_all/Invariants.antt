use Rattle.std.proofs.Common.{take}
use Rattle.dag_graph.specs.Search.{MeetsNodes}
use Rattle.dag_graph.proofs.search.Search.meet_all.Given as goal

abbrev pub invariant-loop-node : goal.invariant-loop-node
invariant-loop-node l = MeetsNodes (take l.node-index l.nodes) l.initial.self l.self
