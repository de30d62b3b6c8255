use Rattle.std.proofs.Common.{◌≡◌}
use Rattle.node_machine.specs.OutcomeTable.{outcome_at}
use Rattle.sched_core.specs.Bound.{phases_left}
use Rattle.fate_audit.proofs.Plays.{IsPlayed}
use Rattle.fate_audit.proofs.predictions.play.Given as goal

abbrev pub invariant-loop-run : goal.invariant-loop-run
invariant-loop-run l = (l.run.course ≡ l.course) × IsPlayed (outcome_at l.table l.name) l.run l.history.items

abbrev pub decreases-loop-run : goal.decreases-loop-run
decreases-loop-run l = phases_left l.run.course l.run.machine.attempt l.run.machine.phase
