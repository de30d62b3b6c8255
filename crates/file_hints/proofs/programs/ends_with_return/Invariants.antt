use Rattle.std.proofs.Common.{◌≡◌, length}
use Rattle.file_hints.specs.Programs.{ends_with_return}
use Rattle.file_hints.proofs.programs.ends_with_return.Given as goal

abbrev pub invariant-loop-rest : goal.invariant-loop-rest
invariant-loop-rest l = ends_with_return l.rest ≡ ends_with_return l.bytes

abbrev pub decreases-loop-rest : goal.decreases-loop-rest
decreases-loop-rest l = length l.rest
