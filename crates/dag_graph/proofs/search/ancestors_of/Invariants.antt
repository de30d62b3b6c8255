use Rattle.std.proofs.Common.{◌-◌, length}
use Rattle.dag_graph.specs.Search.{IsUpward}
use Rattle.dag_graph.proofs.search.ancestors_of.Given as goal

abbrev pub invariant-loop-done : goal.invariant-loop-done
invariant-loop-done l = IsUpward l.dag.edges l.parents l.node l.done l.search

abbrev pub decreases-loop-done : goal.decreases-loop-done
decreases-loop-done l = length l.parents - l.done
