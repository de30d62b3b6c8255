use Rattle.std.proofs.Common.{[], sym, subst}
use Rattle.failure_report.specs.Named.{AreReported, none_reported}
use Rattle.failure_report.proofs.Naming.{reported-more, reported-all}
use Rattle.failure_report.proofs.why.all_named.Goals as goal

pub loop-node-init : goal.loop-node-init
loop-node-init c = subst (AreReported c.args.core.now.plan c.args.core.now.past []) (sym c.new-reported.ensures.items) none_reported

pub loop-node-preserved : goal.loop-node-preserved
loop-node-preserved c =
    reported-more c.args.core.now.plan c.args.core.now.past c.args.nodes.now c.loop-node.node-index c.loop-node.reported.items _ _ c.loop-node-test.true c.loop-node.invariant
    c.in_ok-reported_of_node.ensures c.in_ok-push.ensures.items

pub returns : goal.returns
returns c = reported-all c.args.core.now.plan c.args.core.now.past c.args.nodes.now c.loop-node.node-index c.loop-node.reported.items c.loop-node-test.false c.loop-node.invariant
