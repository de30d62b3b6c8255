use Rattle.std.proofs.Common.{map, take}
use Rattle.std.specs.Option.{option_map}
use Rattle.fault_guide.proofs.NearWords.{IsSoFar}
use Rattle.fault_guide.proofs.near.nearest.Given as goal

abbrev pub invariant-loop-other : goal.invariant-loop-other
invariant-loop-other l = IsSoFar l.word (map (λ w. w.now) (take l.other-index l.words)) (option_map (λ w. w.now) l.found) l.least
