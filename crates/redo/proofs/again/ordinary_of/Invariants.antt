use Rattle.std.proofs.Common.{◌≡◌, take, filter}
use Rattle.std.specs.Prelude.{nat_lt}
use Rattle.run_plan.specs.Plan.{count_of}
use Rattle.redo.proofs.again.ordinary_of.Given as goal

abbrev pub invariant-loop-node : goal.invariant-loop-node
invariant-loop-node l = l.nodes.items ≡ filter (λ node. nat_lt node (count_of l.plan)) (take l.node-index l.named)
