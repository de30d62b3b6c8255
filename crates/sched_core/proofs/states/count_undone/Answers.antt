use Rattle.std.proofs.Common.{◌≡◌, ◌∙◌, false, get_or, sym, ap, arith}
use Rattle.run_plan.specs.Plan.{node_at}
use Rattle.run_plan_node.specs.declared.spec.NodeSpec.{NodeSpec}
use Rattle.sched_core.proofs.Undone.{undone-bound}
use Rattle.sched_core.proofs.states.count_undone.Goals as goal

pub overflow_add-count : goal.overflow_add-count
overflow_add-count c =
    let undone : (node_at c.args.plan.now (get_or c.args.parents.now c.loop-parent.parent-index 0)).done ≡ false =
    ap (λ (s : NodeSpec). s.done) (sym c.spec.ensures.is) ∙ sym c.is_done.ensures ∙ c.if-not-is_done.true in
    let fits = undone-bound (λ parent. (node_at c.args.plan.now parent).done) c.args.parents.now c.loop-parent.parent-index c.loop-parent.count c.loop-parent.invariant c.loop-parent-test.true undone in
    let few = c.requires.few in let room = c.count-most.ensures.room in let is = c.count-most.ensures.is in
    omega (arith, fits, few, room, is)
