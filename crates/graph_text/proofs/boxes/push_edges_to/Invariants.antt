use Rattle.std.proofs.Common.{◌≡◌, ◌++◌, take, flat_map, string_bytes}
use Rattle.graph_text.specs.Picture.{edge_line}
use Rattle.graph_text.proofs.boxes.push_edges_to.Given as goal

abbrev pub invariant-loop-child : goal.invariant-loop-child
invariant-loop-child l = string_bytes l.text ≡ string_bytes l.fn.text ++ flat_map (edge_line l.plan l.first) (take l.child-index l.children)
