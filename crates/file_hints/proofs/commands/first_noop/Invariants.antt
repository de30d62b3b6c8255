use Rattle.std.proofs.Common.{◌≡◌, drop}
use Rattle.file_hints.specs.Commands.{first_noop}
use Rattle.file_hints.proofs.commands.first_noop.Given as goal

abbrev pub invariant-loop-command : goal.invariant-loop-command
invariant-loop-command l = first_noop l.target (drop l.command-index l.commands) ≡ first_noop l.target l.commands
