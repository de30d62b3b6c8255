use Rattle.std.proofs.Common.{◌≡◌, map, drop}
use Rattle.file_hints.specs.Meant.{first_same}
use Rattle.file_hints.proofs.meant.first_same.Given as goal

abbrev pub invariant-loop-one : goal.invariant-loop-one
invariant-loop-one l = first_same (map (λ w. w.now) (drop l.one-index l.words)) l.word ≡ first_same (map (λ w. w.now) l.words) l.word
