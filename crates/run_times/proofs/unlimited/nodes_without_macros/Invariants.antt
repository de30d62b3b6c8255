use Rattle.std.proofs.Common.{◌≡◌, map, take}
use Rattle.run_times.specs.Unlimited.{without_macros}
use Rattle.run_times.proofs.unlimited.nodes_without_macros.Given as goal

abbrev pub invariant-loop-node : goal.invariant-loop-node
invariant-loop-node l = l.same.items ≡ map without_macros (take l.node-index l.nodes)
