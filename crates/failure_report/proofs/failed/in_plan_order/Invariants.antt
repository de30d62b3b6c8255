use Rattle.failure_report.specs.Failures.{AreInPlanOrder}
use Rattle.failure_report.proofs.failed.in_plan_order.Given as goal

abbrev pub invariant-loop-node : goal.invariant-loop-node
invariant-loop-node l = AreInPlanOrder l.core.plan l.core.past l.node l.found.items
