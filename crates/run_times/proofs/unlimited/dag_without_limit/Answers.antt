use Rattle.std.proofs.Common.{◌∙◌, ℕ, List, All, length, sym, ap, subst}
use Rattle.std.proofs.lemmas.List.{length-map}
use Rattle.splices_flat.specs.declared.flat.EdgeGroup.{EdgeGroup}
use Rattle.splices_flat.specs.Dag.{IsGroupBelow}
use Rattle.run_times.specs.Unlimited.{without_macros}
use Rattle.run_times.proofs.unlimited.dag_without_limit.Goals as goal

pub new-requires-3-clause-below : goal.new-requires-3-clause-below
new-requires-3-clause-below c =
    let count = ap length c.in_ok-nodes_without_macros.ensures ∙ length-map c.nodes.result.now without_macros ∙ ap length c.nodes.ensures.are in
    subst (λ (n : ℕ). All (IsGroupBelow n) c.in_ok-same_edges.field-0.items) (sym count)
    (subst (λ (groups : List EdgeGroup). All (IsGroupBelow (length c.args.dag.now.nodes)) groups) (sym c.in_ok-same_edges.ensures) c.edges.ensures.below)
