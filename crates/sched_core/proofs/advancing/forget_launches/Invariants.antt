use Rattle.std.proofs.Common.{◌≡◌, ◌≤◌, ◌+◌, ℕ}
use Rattle.std.specs.Prelude.{nat_lt, if◌then◌else◌}
use Rattle.node_machine.specs.NodeRun.{stopped}
use Rattle.sched_core.specs.Core.{run_at}
use Rattle.sched_core.specs.States.{AreMany}
use Rattle.sched_core.specs.Queued.{IsQueued}
use Rattle.sched_core.proofs.advancing.forget_launches.Given as goal

abbrev pub invariant-loop-node : goal.invariant-loop-node
invariant-loop-node l = record {
  many : AreMany l.plan l.states;
  queued : IsQueued l.plan l.aborted l.states.runs l.states.left l.queue;
  runs : (k : ℕ) → run_at l.states.runs k ≡ (if nat_lt k l.node then stopped (run_at l.fn.states.runs k) else run_at l.fn.states.runs k);
  notes : l.states.notes ≡ l.fn.states.notes;
  left : l.states.left ≡ l.fn.states.left;
  looks : l.states.looks ≤ l.fn.states.looks + l.node;
}
