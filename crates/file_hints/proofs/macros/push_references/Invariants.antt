use Rattle.std.proofs.Common.{◌≡◌, ◌++◌, false, length}
use Rattle.file_hints.specs.References.{references_from}
use Rattle.file_hints.proofs.macros.push_references.Given as goal

abbrev pub invariant-loop-rest : goal.invariant-loop-rest
invariant-loop-rest l = l.found.items ++ references_from l.dollar l.rest ≡ l.initial.found.items ++ references_from false l.text

abbrev pub decreases-loop-rest : goal.decreases-loop-rest
decreases-loop-rest l = length l.rest
