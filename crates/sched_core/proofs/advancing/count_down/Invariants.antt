use Rattle.std.proofs.Common.{◌≡◌, ◌≤◌, ◌+◌, ℕ, drop, false}
use Rattle.sched_core.specs.States.{AreMany, left_at}
use Rattle.sched_core.specs.Queued.{IsQueued}
use Rattle.sched_core.specs.Turns.{times}
use Rattle.sched_core.proofs.advancing.count_down.Given as goal

abbrev pub invariant-loop-child : goal.invariant-loop-child
invariant-loop-child l = record {
  many : AreMany l.plan l.states;
  queued : IsQueued l.plan false l.states.runs l.states.left l.queue;
  runs : l.states.runs ≡ l.fn.states.runs;
  notes : l.states.notes ≡ l.fn.states.notes;
  left : (k : ℕ) → left_at l.states.left k + times k l.child-items ≡ left_at l.fn.states.left k + times k (drop l.child-index l.child-items);
  looks : l.states.looks ≤ l.fn.states.looks + l.child-index;
}
