use Rattle.std.proofs.Common.{◌∙◌, ap}
use Rattle.dag_graph.specs.Graph.{Network}
use Rattle.run_times.specs.Unlimited.{without_limit_on}
use Rattle.run_times.proofs.Copies.{plan-by}
use Rattle.run_times.proofs.unlimited.plan_without_limit.Goals as goal

pub returns : goal.returns
returns c =
    plan-by c.args.graph.now c.args.category.now c.in_ok-dag.dag c.in-Ok.graph c.in-Ok-build_bare.plan
    (c.in_ok-dag.ensures ∙ ap (without_limit_on c.args.category.now) c.flat.ensures) c.in-Ok.ensures.graph c.in-Ok-build_bare.ensures.plan
    (rw (← c.graph.ensures.is) c.order-order.ensures.parents_first)
