use Rattle.std.proofs.Common.{◌≡◌, true, slice_index, below_more, arith, rules}
use Rattle.graph_text.proofs.Foldings.{folding-firsts}
use Rattle.graph_text.proofs.checking.is_folding.Goals as goal

pub loop-node-preserved : goal.loop-node-preserved
loop-node-preserved c =
    let like : c.is_like_first.result ≡ true = search rules in
    below_more _ _ c.loop-node.invariant (c.is_like_first.ensures like)

pub returns : goal.returns
returns c = λ _.
    folding-firsts c.args.plan.now (slice_index c.args.classes.now)
    (λ v low. c.loop-node.invariant v (omega (arith, low, c.drawn_nodes-node-end.ensures.is, c.loop-node-test.false)))
