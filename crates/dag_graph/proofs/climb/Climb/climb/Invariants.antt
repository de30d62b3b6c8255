use Rattle.std.proofs.Common.{◌≡◌, ◌<◌, ℕ, true, []}
use Rattle.dag_graph.specs.Climb.{IsClimb, is_entered}
use Rattle.dag_graph.proofs.climb.Climb.climb.Given as goal

abbrev pub invariant-loop-start : goal.invariant-loop-start
invariant-loop-start l = record {
  climb : IsClimb l.parents l.self;
  empty : l.self.path ≡ [];
  all : (v : ℕ) → v < l.start → is_entered l.self v ≡ true;
}
