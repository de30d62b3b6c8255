use Rattle.std.proofs.Common.{◌≡◌, map}
use Rattle.std.specs.List.{range_with_len}
use Rattle.redo.specs.Redone.{stays_done}
use Rattle.redo.proofs.marks.marks_of.Given as goal

abbrev pub invariant-loop-node : goal.invariant-loop-node
invariant-loop-node l = l.marks.items ≡ map (stays_done l.core.plan l.core.past l.again) (range_with_len 0 l.node)
