use Rattle.std.proofs.Common.{slice_index}
use Rattle.graph_text.specs.Folding.{AreArounds}
use Rattle.graph_text.proofs.checking.arounds_of.Given as goal

abbrev pub invariant-loop-node : goal.invariant-loop-node
invariant-loop-node l = AreArounds l.plan (slice_index l.classes) l.node l.arounds.items
