use Rattle.std.proofs.Common.{◌<◌, ◌+◌, ℕ, length, slice_index, take, sym, subst, arith}
use Rattle.dag_graph.specs.Search.{MeetsNodes}
use Rattle.dag_graph.proofs.Searches.{meets_more}
use Rattle.dag_graph.proofs.search.Search.meet_all.Goals as goal

pub loop-node-preserved : goal.loop-node-preserved
loop-node-preserved c =
    let i : ℕ = c.loop-node.node-index in
    let turn : c.loop-node.node-index < length c.args.nodes.now = omega arith in
    let inside = c.requires.below c.loop-node.node-index 0 turn in
    let small : slice_index c.args.nodes.now c.loop-node.node-index < length c.loop-node.self.met = omega (arith, inside, c.loop-node.invariant.len) in
    subst (MeetsNodes (take (c.loop-node.node-index + 1) c.args.nodes.now) c.args.self.now) (sym c.in_ok-meet.ensures) (meets_more c.args.nodes.now c.loop-node.node-index c.args.self.now c.loop-node.self turn small c.loop-node.invariant)
