use Rattle.std.proofs.Common.{◌≡◌, ◌++◌, map, drop}
use Rattle.file_hints.specs.Meant.{names_above}
use Rattle.file_hints.proofs.meant.names_above.Given as goal

abbrev pub invariant-loop-one : goal.invariant-loop-one
invariant-loop-one l = map (λ w. w.now) l.above.items ++ names_above l.line (drop l.one-index l.placed) ≡ names_above l.line l.placed
