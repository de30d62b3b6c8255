use Rattle.std.proofs.Common.{◌≡◌, map}
use Rattle.std.specs.List.{range_with_len}
use Rattle.failure_report.specs.Reaching.{nodes_in}
use Rattle.failure_report.specs.Waiting.{held_by}
use Rattle.failure_report.proofs.waiting.held_lists.Given as goal

abbrev pub invariant-loop-node : goal.invariant-loop-node
invariant-loop-node l = nodes_in l.lists.items ≡ map (held_by l.core.plan l.core.past) (range_with_len 0 l.node)
