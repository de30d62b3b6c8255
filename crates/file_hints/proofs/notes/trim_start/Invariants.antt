use Rattle.std.proofs.Common.{◌≡◌, length}
use Rattle.submit_file.specs.Lines.{trim_start}
use Rattle.file_hints.proofs.notes.trim_start.Given as goal

abbrev pub invariant-loop-rest : goal.invariant-loop-rest
invariant-loop-rest l = trim_start l.rest ≡ trim_start l.text

abbrev pub decreases-loop-rest : goal.decreases-loop-rest
decreases-loop-rest l = length l.rest
