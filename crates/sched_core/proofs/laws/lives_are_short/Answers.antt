use Rattle.sched_core.proofs.Bounds.{life-short}
use Rattle.sched_core.proofs.laws.lives_are_short.Goals as goal

pub returns : goal.returns
returns c = life-short
