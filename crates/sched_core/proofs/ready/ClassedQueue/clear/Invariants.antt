use Rattle.std.proofs.Common.{◌≡◌, ◌<◌, ℕ, []}
use Rattle.sched_core.specs.Queued.{AreQueues, members_at}
use Rattle.sched_core.proofs.ready.ClassedQueue.clear.Given as goal

abbrev pub invariant-loop-class : goal.invariant-loop-class
invariant-loop-class l = record {
  are : AreQueues l.plan l.self.queues;
  none : (class : ℕ) → class < l.class → members_at l.self.queues class ≡ [];
}
