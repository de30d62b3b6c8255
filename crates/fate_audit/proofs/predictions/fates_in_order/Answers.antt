use Rattle.std.proofs.Common.{arith}
use Rattle.fate_audit.specs.Fates.{table_by}
use Rattle.fate_audit.proofs.Orders.{all-filled, filled-step}
use Rattle.fate_audit.proofs.predictions.fates_in_order.Goals as goal

pub loop-node-preserved : goal.loop-node-preserved
loop-node-preserved c =
    filled-step c.args.plan.now (table_by c.args.plan.now c.args.table.now) c.args.order.now c.loop-node.fates.items c.loop-node.node-index c.loop-node-test.true c.loop-node.invariant
    c.requires.ranked c.args.plan.now.graph.dag c.requires.order c.requires.many _ c.in_ok-fill.ensures

pub returns : goal.returns
returns c =
    let t = c.loop-node-test.false in
    all-filled c.args.plan.now (table_by c.args.plan.now c.args.table.now) c.args.order.now c.loop-node.fates.items c.loop-node.node-index (omega arith) c.loop-node.invariant
    c.requires.ranked c.args.plan.now.graph.dag c.requires.order c.requires.many
