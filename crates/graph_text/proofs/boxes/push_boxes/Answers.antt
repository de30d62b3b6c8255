use Rattle.std.proofs.Common.{string_bytes, slice_index}
use Rattle.graph_text.specs.Picture.{drawn_plan, states_of}
use Rattle.graph_text.proofs.Foldings.{boxes-more}
use Rattle.graph_text.proofs.boxes.push_boxes.Goals as goal

pub loop-node-preserved : goal.loop-node-preserved
loop-node-preserved c =
    boxes-more (drawn_plan c.args.drawn.now) (slice_index c.args.classes.now) (states_of c.args.drawn.now) c.loop-node.node (string_bytes c.args.text.now) _ _
    c.loop-node.invariant c.in_ok-push_box_at.ensures
