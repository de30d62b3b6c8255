use Rattle.std.proofs.Common.{◌≡◌, ◌++◌, drop}
use Rattle.file_hints.specs.Commands.{dag_notes}
use Rattle.file_hints.proofs.commands.dag_notes.Given as goal

abbrev pub invariant-loop-command : goal.invariant-loop-command
invariant-loop-command l = l.found.items ++ dag_notes l.commands (drop l.command-index l.commands) ≡ dag_notes l.commands l.commands
