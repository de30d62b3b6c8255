use Rattle.std.proofs.Common.{◌≡◌, drop}
use Rattle.splices_flat.specs.Faults.{first_some, edge_fault}
use Rattle.splices.specs.NameCheck.{checked_by}
use Rattle.splices.proofs.check.NameCheck.ends.Given as goal

abbrev pub invariant-loop-word : goal.invariant-loop-word
invariant-loop-word l = first_some (edge_fault (checked_by l.self)) l.words ≡ first_some (edge_fault (checked_by l.self)) (drop l.word-index l.words)
