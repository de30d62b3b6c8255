use Rattle.std.proofs.Common.{◌≡◌, take}
use Rattle.run_times.proofs.unlimited.same_edges.Given as goal

abbrev pub invariant-loop-group : goal.invariant-loop-group
invariant-loop-group l = l.same.items ≡ take l.group-index l.edges
