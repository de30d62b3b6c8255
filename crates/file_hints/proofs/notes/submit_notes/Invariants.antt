use Rattle.std.proofs.Common.{◌≡◌, ◌++◌, drop}
use Rattle.file_hints.specs.Notes.{submit_notes, value_notes}
use Rattle.file_hints.proofs.notes.submit_notes.Given as goal

abbrev pub invariant-loop-one : goal.invariant-loop-one
invariant-loop-one l = l.found.items ++ value_notes (drop l.one-index l.placed) ≡ submit_notes l.placed
