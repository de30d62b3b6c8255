use Rattle.std.proofs.Common.{◌∙◌, ℕ, List, ap, sym, subst}
use Rattle.dag_graph.specs.Graph.{Network, rank_in}
use Rattle.run_plan.specs.Plan.{IsRankedBy}
use Rattle.fate_audit.proofs.predictions.predict.Goals as goal

pub fates_in_order-requires-clause-ranked : goal.fates_in_order-requires-clause-ranked
fates_in_order-requires-clause-ranked c =
    subst (λ (o : List ℕ). IsRankedBy (rank_in o) c.args.plan.now) (sym (c.order.ensures.is ∙ ap (λ (g : Network). g.order) c.graph-graph.ensures.is)) c.graph-graph.ensures.ranked
