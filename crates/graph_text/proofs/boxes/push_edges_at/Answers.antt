use Rattle.std.proofs.Common.{◌<◌, slice_index, ◌∙◌}
use Rattle.std.proofs.lemmas.List.Elements.{All-same}
use Rattle.run_plan.specs.Plan.{count_of}
use Rattle.graph_text.proofs.Foldings.{box-children-below}
use Rattle.graph_text.proofs.boxes.push_edges_at.Goals as goal

pub push_edges_to-requires-clause-children : goal.push_edges_to-requires-clause-children
push_edges_to-requires-clause-children c =
    All-same (λ m. m < count_of c.args.plan.now) _ _ (c.as_slice.ensures ∙ c.in_ok-children.ensures)
    (box-children-below c.args.plan.now (slice_index c.args.classes.now) c.args.node)
