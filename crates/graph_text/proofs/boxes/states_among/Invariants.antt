use Rattle.std.proofs.Common.{◌≡◌, map, take}
use Rattle.graph_text.specs.Picture.{states_of}
use Rattle.graph_text.proofs.boxes.states_among.Given as goal

abbrev pub invariant-loop-node : goal.invariant-loop-node
invariant-loop-node l = l.states.items ≡ map (states_of l.drawn) (take l.node-index l.members)
