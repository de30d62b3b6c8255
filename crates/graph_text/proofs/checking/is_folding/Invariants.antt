use Rattle.std.proofs.Common.{ℕ, ◌<◌, slice_index}
use Rattle.graph_text.specs.Folding.{IsLikeFirst}
use Rattle.graph_text.proofs.checking.is_folding.Given as goal

abbrev pub invariant-loop-node : goal.invariant-loop-node
invariant-loop-node l = (v : ℕ) → v < l.node → IsLikeFirst l.plan (slice_index l.classes) v
