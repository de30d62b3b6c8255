use Rattle.std.proofs.Common.{◌-◌, length}
use Rattle.failure_report.specs.Reaching.{IsOnTheWay, nodes_in}
use Rattle.failure_report.proofs.reaching.search_from.Given as goal

abbrev pub invariant-loop-done : goal.invariant-loop-done
invariant-loop-done l = IsOnTheWay (nodes_in l.lists) l.node l.done l.search

abbrev pub decreases-loop-done : goal.decreases-loop-done
decreases-loop-done l = length l.lists - l.done
