use Rattle.std.proofs.Common.{◌≡◌, ◌≤◌, ◌+◌, ℕ}
use Rattle.std.specs.Prelude.{nat_lt, if◌then◌else◌}
use Rattle.node_machine.specs.NodeRun.{stopped}
use Rattle.sched_core.specs.Core.{run_at}
use Rattle.sched_core.specs.States.{AreMany}
use Rattle.sched_core.proofs.advancing.stop_others.Given as goal

abbrev pub invariant-loop-other : goal.invariant-loop-other
invariant-loop-other l = record {
  many : AreMany l.plan l.states;
  runs : (k : ℕ) → run_at l.states.runs k ≡ (if nat_lt k l.other then stopped (run_at l.fn.states.runs k) else run_at l.fn.states.runs k);
  notes : l.states.notes ≡ l.fn.states.notes;
  left : l.states.left ≡ l.fn.states.left;
  looks : l.states.looks + (if nat_lt l.node l.other then 1 else 0) ≤ l.fn.states.looks + l.other;
}
