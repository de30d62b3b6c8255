use Rattle.std.proofs.Common.{◌≡◌, drop}
use Rattle.file_hints.specs.Submitted.{advice_in}
use Rattle.file_hints.proofs.submit.advice_in.Given as goal

abbrev pub invariant-loop-row : goal.invariant-loop-row
invariant-loop-row l = advice_in (drop l.row-index l.rows) l.name ≡ advice_in l.rows l.name
