use Rattle.std.proofs.Common.{◌≡◌, ◌++◌, drop}
use Rattle.salvage.proofs.NameLists.{marked_of}
use Rattle.salvage.proofs.carried.marked_names.Given as goal

abbrev pub invariant-loop-number : goal.invariant-loop-number
invariant-loop-number l = l.names.items ++ marked_of (drop l.number l.nodes) (drop l.number l.marks) ≡ marked_of l.nodes l.marks
