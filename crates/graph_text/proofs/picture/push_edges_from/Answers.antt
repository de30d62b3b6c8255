use Rattle.std.proofs.Common.{arith, rules}
use Rattle.graph_text.proofs.Drawing.{child-below}
use Rattle.graph_text.proofs.picture.push_edges_from.Goals as goal

pub push_edge-requires : goal.push_edge-requires
push_edge-requires c =
    let low = child-below c.args.plan.now c.graph.ensures.count c.args.parent c.loop-child.child-index c.children-child-items.result.now (search rules) c.loop-child-test.true in
    (omega (arith, c.requires), omega (arith, low))
