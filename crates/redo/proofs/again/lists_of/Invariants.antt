use Rattle.std.proofs.Common.{◌≡◌, map}
use Rattle.std.specs.List.{range_with_len}
use Rattle.failure_report.specs.Reaching.{nodes_in}
use Rattle.redo.specs.Redone.{next_again}
use Rattle.redo.proofs.again.lists_of.Given as goal

abbrev pub invariant-loop-node : goal.invariant-loop-node
invariant-loop-node l = nodes_in l.lists.items ≡ map (next_again l.plan l.only l.named) (range_with_len 0 l.node)
