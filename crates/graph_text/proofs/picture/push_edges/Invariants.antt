use Rattle.std.proofs.Common.{◌≡◌, ◌++◌, string_bytes}
use Rattle.graph_text.specs.Picture.{edge_lines}
use Rattle.graph_text.proofs.picture.push_edges.Given as goal

abbrev pub invariant-loop-parent : goal.invariant-loop-parent
invariant-loop-parent l = string_bytes l.text ≡ string_bytes l.fn.text ++ edge_lines l.plan l.parent
