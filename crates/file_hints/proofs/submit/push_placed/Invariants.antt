use Rattle.std.proofs.Common.{◌≡◌, ◌++◌, drop}
use Rattle.file_hints.specs.Submitted.{placed_references}
use Rattle.file_hints.proofs.submit.push_placed.Given as goal

abbrev pub invariant-loop-one : goal.invariant-loop-one
invariant-loop-one l = l.found.items ++ placed_references (drop l.one-index l.placed) ≡ l.initial.found.items ++ placed_references l.placed
