use Rattle.std.proofs.Common.{◌-◌, length}
use Rattle.sched_core.proofs.Going.{IsGoing}
use Rattle.sched_core.proofs.scheduler.Core.ordinary_round.Given as goal

abbrev pub invariant-loop-plan : goal.invariant-loop-plan
invariant-loop-plan l = IsGoing l.self.limits l.self.plan l.self.past l.queue.queues l.max l.keys.items l.taken.items l.throttles

abbrev pub decreases-loop-plan : goal.decreases-loop-plan
decreases-loop-plan l = l.max - length l.keys.items
