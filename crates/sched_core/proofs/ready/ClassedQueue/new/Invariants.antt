use Rattle.std.proofs.Common.{◌≡◌, ◌<◌, ◌≤◌, ℕ, suc, [], length}
use Rattle.sched_core.specs.Queued.{count_at, members_at, queue_at}
use Rattle.sched_core.proofs.ready.ClassedQueue.new.Given as goal

abbrev pub invariant-loop-count : goal.invariant-loop-count
invariant-loop-count l = record {
  many : length l.queues.items ≡ l.count-index;
  each : (k : ℕ) → k < l.count-index → (members_at l.queues.items k ≡ []) × (suc (count_at l.count-items k) ≤ (queue_at l.queues.items k).room);
}
