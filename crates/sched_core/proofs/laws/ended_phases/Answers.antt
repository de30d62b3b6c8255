use Rattle.sched_core.proofs.Held.{histories-are}
use Rattle.sched_core.proofs.laws.ended_phases.Goals as goal

pub returns : goal.returns
returns c plan records lawful node = histories-are plan records lawful node
