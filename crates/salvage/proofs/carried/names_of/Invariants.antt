use Rattle.std.proofs.Common.{◌≡◌, take}
use Rattle.salvage.proofs.NameLists.{node_names}
use Rattle.salvage.proofs.carried.names_of.Given as goal

abbrev pub invariant-loop-node : goal.invariant-loop-node
invariant-loop-node l = l.names.items ≡ node_names (take l.node-index l.nodes)
