use Rattle.std.proofs.Common.{◌≡◌, ◌++◌, drop}
use Rattle.file_hints.specs.Notes.{launch_notes}
use Rattle.file_hints.proofs.notes.push_launch_notes.Given as goal

abbrev pub invariant-loop-reference : goal.invariant-loop-reference
invariant-loop-reference l =
    l.found.items ++ launch_notes l.one.line (drop l.reference-index l.reference-items) ≡ l.initial.found.items ++ launch_notes l.one.line l.reference-items
