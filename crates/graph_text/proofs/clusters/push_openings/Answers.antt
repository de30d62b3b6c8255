use Rattle.graph_text.proofs.Sharing.{openings-more, one-more}
use Rattle.graph_text.proofs.clusters.push_openings.Goals as goal

pub loop-depth-preserved : goal.loop-depth-preserved
loop-depth-preserved c =
    one-more _ _ _ _ _ _ c.in_ok-push_opening.ensures (openings-more c.args.node c.args.scope.now c.loop-depth.depth _ c.loop-depth-test.true) c.loop-depth.invariant
