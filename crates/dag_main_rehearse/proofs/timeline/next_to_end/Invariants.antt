use Rattle.std.proofs.Common.{◌≡◌, reverse, take}
use Rattle.dag_main_rehearse.specs.Timed.{next_to_end}
use Rattle.dag_main_rehearse.proofs.timeline.next_to_end.Given as goal

abbrev pub invariant-loop-child : goal.invariant-loop-child
invariant-loop-child l = l.next ≡ next_to_end (reverse (take l.child-index l.children))
