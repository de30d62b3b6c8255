use Rattle.sched_core.proofs.Aborts.{no-abort}
use Rattle.sched_core.proofs.laws.aborts.Goals as goal

pub returns : goal.returns
returns c = no-abort
