use Rattle.std.proofs.Common.{◌≡◌, ℕ, ◌<◌, ◌++◌, [], ◌∷◌, length, take, slice_index_or, if◌then◌else◌}
use Rattle.dag_graph.specs.Numbers.{has}
use Rattle.dag_graph.proofs.numbers.add_at.Given as goal

abbrev pub invariant-loop-place : goal.invariant-loop-place
invariant-loop-place l = record {
  len : length l.lists.items ≡ length l.initial.lists.items;
  each : (v : ℕ) → v < length l.initial.lists.items → slice_index_or l.lists.items v [] ≡ slice_index_or l.initial.lists.items v [] ++ (if has (take l.place-index l.places) v then l.number ∷ [] else []);
}
