use Rattle.std.proofs.Common.{◌≡◌, ◌++◌, string_bytes, slice_index}
use Rattle.graph_text.specs.Folded.{box_edges}
use Rattle.graph_text.proofs.boxes.push_box_edges.Given as goal

abbrev pub invariant-loop-node : goal.invariant-loop-node
invariant-loop-node l = string_bytes l.text ≡ string_bytes l.fn.text ++ box_edges l.plan (slice_index l.classes) l.node
