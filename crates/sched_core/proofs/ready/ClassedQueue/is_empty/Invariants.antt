use Rattle.std.proofs.Common.{◌≡◌, ◌<◌, ℕ, []}
use Rattle.sched_core.specs.Queued.{members_at}
use Rattle.sched_core.proofs.ready.ClassedQueue.is_empty.Given as goal

abbrev pub invariant-loop-class : goal.invariant-loop-class
invariant-loop-class l = (class : ℕ) → class < l.class → members_at l.self.queues class ≡ []
