use Rattle.std.proofs.Common.{◌≡◌, take, vec_len}
use Rattle.splices_flat.specs.Places.{AreSideMarks, edges_of}
use Rattle.splices.proofs.ends.marks_of.Given as goal

abbrev pub invariant-loop-group : goal.invariant-loop-group
invariant-loop-group l = (vec_len l.marks ≡ l.count) × AreSideMarks l.side l.first (edges_of (take l.group-index l.groups)) l.marks.items
