use Rattle.std.proofs.Common.{take}
use Rattle.failure_report.specs.Named.{AreReported}
use Rattle.failure_report.proofs.why.all_named.Given as goal

abbrev pub invariant-loop-node : goal.invariant-loop-node
invariant-loop-node l = AreReported l.core.plan l.core.past (take l.node-index l.nodes) l.reported.items
