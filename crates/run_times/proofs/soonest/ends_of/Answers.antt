use Rattle.std.proofs.Common.{◌≡◌, ℕ, ◌+◌, ◌<◌, List, length, get_or, sym, ap, subst, ◌∙◌, length-set, arith}
use Rattle.dag_graph.specs.Graph.{rank_in, parents_of}
use Rattle.run_times.specs.Canvas.{within}
use Rattle.run_times.specs.Soonest.{last_end_of}
use Rattle.run_times.proofs.Ends.{IsEnd, ends-more}
use Rattle.run_times.proofs.soonest.ends_of.Goals as goal

pub loop-node-preserved : goal.loop-node-preserved
loop-node-preserved c =
    let graph = c.args.graph.now in
    let ends = c.loop-node.ends.items in
    let node = get_or c.order-node-items.result.now c.loop-node.node-index 0 in
    let last : c.last_end_of-parents.result ≡ last_end_of ends (parents_of graph.dag node)
    = c.last_end_of-parents.ensures ∙ ap (λ (xs : List ℕ). last_end_of xs c.parents.result.now) c.deref.ensures.value ∙ ap (last_end_of ends) c.parents.ensures in
    let value : c.saturating_add.result ≡ within (last_end_of ends (parents_of graph.dag node) + get_or c.args.busy.now node 0) = omega (arith, c.saturating_add.ensures, last, c.number_at.ensures) in
    record {
      each = ap length c.set_number.ensures ∙ length-set ends node c.saturating_add.result ∙ c.loop-node.invariant.each;
      are = λ m inside low.
          subst (λ (xs : List ℕ). IsEnd graph c.args.busy.now xs m) (sym c.set_number.ensures)
          (ends-more graph c.args.busy.now ends c.loop-node.node-index node c.saturating_add.result c.order-node-items.ensures.parents_first c.loop-node.invariant.each
          (ap (λ (xs : List ℕ). get_or xs c.loop-node.node-index 0) c.order-node-items.ensures.is) c.loop-node.invariant.are value m inside low);
    }

pub returns : goal.returns
returns c =
    let graph = c.args.graph.now in
    let ends = c.loop-node.ends.items in
    record {
      each = c.loop-node.invariant.each;
      are = λ node inside.
          let ranked : rank_in graph.order node < c.loop-node.node-index
          = let all = ap length c.order-node-items.ensures.is in let low = c.order-node-items.ensures.parents_first.within node inside in omega (arith, all, low, c.loop-node-test.false) in
          let end = c.loop-node.invariant.are node inside ranked in
          let busy = c.requires.are node (omega (arith, inside)) in
          omega (arith, end, busy);
    }
