use Rattle.std.proofs.Common.{◌<◌, ◌≤◌, [], length, slice_index, ◌∙◌, arith}
use Rattle.std.proofs.lemmas.List.{get_or_read}
use Rattle.std.proofs.lemmas.List.Elements.{All-same}
use Rattle.run_plan.specs.Plan.{count_of}
use Rattle.graph_text.specs.Picture.{drawn_plan}
use Rattle.graph_text.proofs.Foldings.{members-few}
use Rattle.graph_text.proofs.boxes.push_box_at.Goals as goal

pub push_box-requires-clause-members : goal.push_box-requires-clause-members
push_box-requires-clause-members c =
    let low : c.args.node < length c.args.lists.now = omega (arith, c.requires.within, c.requires.len) in
    All-same (λ n. n ≤ count_of (drawn_plan c.args.drawn.now)) _ _
    (c.as_slice.ensures ∙ get_or_read c.args.lists.now c.args.node c.index-lists-node.result low c.index-lists-node.is [] ∙ c.requires.members)
    (members-few (drawn_plan c.args.drawn.now) (slice_index c.args.classes.now) c.args.node)
