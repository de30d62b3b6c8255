use Rattle.std.proofs.Common.{◌≡◌, ℕ, true}
use Rattle.dag_graph.specs.Climb.{IsClimb, is_entered, work_left}
use Rattle.dag_graph.proofs.climb.Climb.go_up.Given as goal

abbrev pub invariant-loop-node : goal.invariant-loop-node
invariant-loop-node l = record {
  climb : IsClimb l.parents l.self;
  kept : (v : ℕ) → is_entered l.initial.self v ≡ true → is_entered l.self v ≡ true;
}

abbrev pub decreases-loop-node : goal.decreases-loop-node
decreases-loop-node l = work_left l.parents l.self
