use Rattle.std.proofs.Common.{◌≡◌, reverse, take}
use Rattle.dag_main_rehearse.specs.Timed.{end_among}
use Rattle.dag_main_rehearse.proofs.timeline.end_among.Given as goal

abbrev pub invariant-loop-child : goal.invariant-loop-child
invariant-loop-child l = l.end ≡ end_among l.key l.now (reverse (take l.child-index l.children))
