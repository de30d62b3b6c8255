use Rattle.std.proofs.Common.{◌≡◌, ℕ, ◌<◌, [], length, slice_index_or}
use Rattle.dag_graph.specs.Numbers.{holders_below}
use Rattle.dag_graph.proofs.numbers.inverted.Given as goal

abbrev pub invariant-loop-number : goal.invariant-loop-number
invariant-loop-number l = record {
  len : length l.inverse.items ≡ l.count;
  each : (v : ℕ) → v < l.count → slice_index_or l.inverse.items v [] ≡ holders_below l.number l.lists v;
}
