use Rattle.std.proofs.Common.{◌≡◌, ◌≤◌, ◌++◌, string_bytes}
use Rattle.graph_text.specs.Clusters.{closings}
use Rattle.graph_text.proofs.clusters.push_closings.Given as goal

abbrev pub invariant-loop-left : goal.invariant-loop-left
invariant-loop-left l = (l.left ≤ l.count) × (string_bytes l.text ++ closings l.depth l.left ≡ string_bytes l.fn.text ++ closings l.depth l.count)

abbrev pub decreases-loop-left : goal.decreases-loop-left
decreases-loop-left l = l.left
