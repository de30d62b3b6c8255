use Rattle.std.proofs.Common.{◌≡◌, ◌++◌, map, drop}
use Rattle.file_hints.proofs.meant.known_names.Given as goal

abbrev pub invariant-loop-row : goal.invariant-loop-row
invariant-loop-row l =
    map (λ w. w.now) l.known.items ++ map (λ row. row.0.now) (drop l.row-index l.names.passed_over.now)
    ≡ map (λ w. w.now) l.names.read.now ++ map (λ row. row.0.now) l.names.passed_over.now
