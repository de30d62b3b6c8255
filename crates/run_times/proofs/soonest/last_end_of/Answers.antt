use Rattle.std.proofs.Common.{arith}
use Rattle.run_times.proofs.Ends.{last_end_more}
use Rattle.run_times.proofs.soonest.last_end_of.Goals as goal

pub loop-node-preserved : goal.loop-node-preserved
loop-node-preserved c =
    omega (arith, c.max-last.ensures, c.number_at.ensures, c.loop-node.invariant, last_end_more c.args.ends.now c.args.nodes.now c.loop-node.node-index 0 c.loop-node-test.true)
