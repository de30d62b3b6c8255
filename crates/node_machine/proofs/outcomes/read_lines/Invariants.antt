use Rattle.std.proofs.Common.{◌≤◌, ◌+◌, length}
use Rattle.node_machine.proofs.OutcomeLines.{HasRead}
use Rattle.node_machine.proofs.outcomes.read_lines.Given as goal

abbrev pub invariant-loop-rest : goal.invariant-loop-rest
invariant-loop-rest l = HasRead l.text l.rest l.number l.table × (l.number + length l.rest ≤ length l.text + 1)

abbrev pub decreases-loop-rest : goal.decreases-loop-rest
decreases-loop-rest l = length l.rest
