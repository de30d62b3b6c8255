use Rattle.std.proofs.Common.{◌≡◌, ◌≤◌, ℕ, length}
use Rattle.node_machine.specs.declared.Phase.TheVariants.{Job}
use Rattle.run_plan.specs.Plan.{node_at}
use Rattle.sched_core.specs.Bound.{sum_below}
use Rattle.sched_core.specs.Queued.{class_of, classes_of, count_at, share}
use Rattle.sched_core.proofs.ready.count_jobs.Given as goal

abbrev pub invariant-loop-node : goal.invariant-loop-node
invariant-loop-node l = record {
  many : length l.counts ≡ classes_of l.plan;
  counted : (class : ℕ) → count_at l.counts class ≡ sum_below (λ node. share (class_of Job (node_at l.plan node).category) class) l.node;
  few : (class : ℕ) → count_at l.counts class ≤ l.node;
}
