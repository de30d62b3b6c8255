use Rattle.std.proofs.Common.{◌≡◌, ◌+◌, drop}
use Rattle.run_plan.specs.Plan.{node_at}
use Rattle.sched_core.specs.States.{undone_in}
use Rattle.sched_core.proofs.states.count_undone.Given as goal

abbrev pub invariant-loop-parent : goal.invariant-loop-parent
invariant-loop-parent l =
    l.count + undone_in (λ parent. (node_at l.plan parent).done) (drop l.parent-index l.parents) ≡ undone_in (λ parent. (node_at l.plan parent).done) l.parents
