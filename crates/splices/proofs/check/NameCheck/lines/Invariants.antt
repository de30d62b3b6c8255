use Rattle.std.proofs.Common.{◌≡◌, drop}
use Rattle.splices_flat.specs.Faults.{first_some, line_fault}
use Rattle.splices.specs.NameCheck.{checked_by}
use Rattle.splices.proofs.check.NameCheck.lines.Given as goal

abbrev pub invariant-loop-command : goal.invariant-loop-command
invariant-loop-command l = first_some (line_fault (checked_by l.self)) l.commands ≡ first_some (line_fault (checked_by l.self)) (drop l.command-index l.commands)
