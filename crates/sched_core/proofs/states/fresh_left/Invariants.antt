use Rattle.std.proofs.Common.{◌≡◌, ◌<◌, ℕ, length}
use Rattle.run_plan.specs.Plan.{node_at}
use Rattle.sched_core.specs.States.{left_at, undone_in}
use Rattle.sched_core.proofs.states.fresh_left.Given as goal

abbrev pub invariant-loop-node : goal.invariant-loop-node
invariant-loop-node l = record {
  many : length l.left.items ≡ l.node;
  each : (k : ℕ) → k < l.node → left_at l.left.items k ≡ undone_in (λ parent. (node_at l.plan parent).done) (node_at l.plan k).parents;
}
