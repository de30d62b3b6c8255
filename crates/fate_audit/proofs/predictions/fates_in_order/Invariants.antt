use Rattle.fate_audit.specs.Fates.{table_by}
use Rattle.fate_audit.proofs.Orders.{AreFilled}
use Rattle.fate_audit.proofs.predictions.fates_in_order.Given as goal

abbrev pub invariant-loop-node : goal.invariant-loop-node
invariant-loop-node l = AreFilled l.plan (table_by l.plan l.table) l.order l.fates.items l.node-index
