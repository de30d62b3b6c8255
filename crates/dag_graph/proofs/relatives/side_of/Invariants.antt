use Rattle.std.proofs.Common.{◌≡◌, map, take}
use Rattle.splices_flat.specs.Places.{nodes_on_side}
use Rattle.dag_graph.proofs.relatives.side_of.Given as goal

abbrev pub invariant-loop-group : goal.invariant-loop-group
invariant-loop-group l = l.lists.items ≡ map (nodes_on_side l.side) (take l.group-index l.groups)
