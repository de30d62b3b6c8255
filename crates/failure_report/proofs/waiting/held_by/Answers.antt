use Rattle.std.proofs.Common.{◌≡◌, ◌∙◌, ap, subst, arith, length}
use Rattle.run_plan.specs.Plan.{Plan, count_of}
use Rattle.dag_graph.specs.Graph.{children_of, Network}
use Rattle.failure_report.proofs.Holding.{child_low}
use Rattle.failure_report.proofs.waiting.held_by.Goals as goal

pub is_done-requires : goal.is_done-requires
is_done-requires c =
    let plan = c.args.core.now.plan in
    let counted : count_of plan ≡ length plan.graph.dag.nodes = subst (λ (p : Plan). count_of p ≡ length p.graph.dag.nodes) c.plan.ensures c.graph.ensures.count in
    let are = c.children-child-items.ensures ∙ ap (λ (g : Network). children_of g.dag c.args.node) (c.graph.ensures.is ∙ ap (λ (p : Plan). p.graph) c.plan.ensures) in
    let low = child_low plan counted c.args.node c.loop-child.child-index c.children-child-items.result.now are c.loop-child-test.true in
    omega (arith, low)
