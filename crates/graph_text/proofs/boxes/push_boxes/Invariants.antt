use Rattle.std.proofs.Common.{◌≡◌, ◌++◌, string_bytes, slice_index}
use Rattle.graph_text.specs.Picture.{drawn_plan, states_of}
use Rattle.graph_text.specs.Folded.{box_lines}
use Rattle.graph_text.proofs.boxes.push_boxes.Given as goal

abbrev pub invariant-loop-node : goal.invariant-loop-node
invariant-loop-node l = string_bytes l.text ≡ string_bytes l.fn.text ++ box_lines (drawn_plan l.drawn) (slice_index l.classes) (states_of l.drawn) l.node
