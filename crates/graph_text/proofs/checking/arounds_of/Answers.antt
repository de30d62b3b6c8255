use Rattle.std.proofs.Common.{slice_index}
use Rattle.graph_text.proofs.Foldings.{arounds-more}
use Rattle.graph_text.proofs.checking.arounds_of.Goals as goal

pub loop-node-preserved : goal.loop-node-preserved
loop-node-preserved c =
    arounds-more c.args.plan.now (slice_index c.args.classes.now) c.loop-node.node c.loop-node.arounds.items c.in_ok-around_of.field-0 c.push.new.self.items
    c.loop-node.invariant c.in_ok-push.ensures.items c.in_ok-around_of.ensures
