use Rattle.std.proofs.Common.{◌≡◌, ◌≤◌, if◌then◌else◌}
use Rattle.run_plan.specs.Plan.{node_at}
use Rattle.sched_core.specs.Bound.{sum_below}
use Rattle.sched_core.proofs.nodes.done_at_first.Given as goal

abbrev pub invariant-loop-node : goal.invariant-loop-node
invariant-loop-node l = record {
  sum : l.done ≡ sum_below (λ node. if (node_at l.plan node).done then 1 else 0) l.node;
  few : l.done ≤ l.node;
}
