use Rattle.std.proofs.Common.{◌≡◌, ℕ, ◌<◌, [], length, slice_index_or}
use Rattle.dag_graph.specs.Numbers.{all_named, holders_below}
use Rattle.dag_graph.proofs.relatives.parents_by.Given as goal

abbrev pub invariant-loop-number : goal.invariant-loop-number
invariant-loop-number l = record {
  len : length l.parents.items ≡ length l.homes;
  each : (v : ℕ) → v < length l.homes → slice_index_or l.parents.items v [] ≡ holders_below l.number (all_named l.children l.homes) v;
}
