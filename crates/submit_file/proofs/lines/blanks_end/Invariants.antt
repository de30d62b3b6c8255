use Rattle.std.proofs.Common.{◌-◌, length}
use Rattle.submit_file.specs.Fronts.{BeginsWithBlanks}
use Rattle.submit_file.proofs.lines.blanks_end.Given as goal

abbrev pub invariant-loop-end : goal.invariant-loop-end
invariant-loop-end l = BeginsWithBlanks l.end l.text

abbrev pub decreases-loop-end : goal.decreases-loop-end
decreases-loop-end l = length l.text - l.end
