use Rattle.std.proofs.Common.{◌≡◌, not, take, filter}
use Rattle.dag_graph.specs.Graph.{children_of}
use Rattle.sched_core.specs.Run.{is_done}
use Rattle.failure_report.proofs.waiting.held_by.Given as goal

abbrev pub invariant-loop-child : goal.invariant-loop-child
invariant-loop-child l = l.held.items ≡ filter (λ child. not (is_done l.core.plan l.core.past child)) (take l.child-index (children_of l.core.plan.graph.dag l.node))
