use Rattle.std.proofs.Common.{◌≡◌, take}
use Rattle.dag_graph.specs.Numbers.{named}
use Rattle.dag_graph.proofs.relatives.named.Given as goal

abbrev pub invariant-loop-place : goal.invariant-loop-place
invariant-loop-place l = l.numbers ≡ named l.lists (take l.place-index l.places)
