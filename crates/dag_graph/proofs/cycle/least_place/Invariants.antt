use Rattle.std.proofs.Common.{ℕ, ◌<◌, ◌≤◌, length, slice_index}
use Rattle.dag_graph.proofs.cycle.least_place.Given as goal

abbrev pub invariant-loop-k : goal.invariant-loop-k
invariant-loop-k l = record {
  within : l.place < length l.nodes;
  least : (i : ℕ) → i < l.k → slice_index l.nodes l.place ≤ slice_index l.nodes i;
}
