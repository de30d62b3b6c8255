use Rattle.std.proofs.Common.{◌≡◌, ℕ, ◌<◌, [], length, slice_index, slice_index_or}
use Rattle.graph_text.specs.Folded.{members_below}
use Rattle.graph_text.proofs.classes.members_of.Given as goal

abbrev pub invariant-loop-node : goal.invariant-loop-node
invariant-loop-node l = record {
  len : length l.lists.items ≡ l.count;
  each : (v : ℕ) → v < l.count → slice_index_or l.lists.items v [] ≡ members_below (slice_index l.classes) l.node v;
}
