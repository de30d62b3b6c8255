use Rattle.std.proofs.Common.{◌<◌, length, slice_index, ◌∙◌, arith}
use Rattle.std.proofs.lemmas.List.{length-set}
use Rattle.graph_text.proofs.Foldings.{members-more}
use Rattle.graph_text.proofs.classes.members_of.Goals as goal

pub loop-node-preserved : goal.loop-node-preserved
loop-node-preserved c =
    let inv = c.loop-node.invariant in
    let class = c.class_at-class.result in
    let turn : c.loop-node.node < c.args.count = c.loop-node-test.true in
    let low : class < length c.loop-node.lists.items = omega (arith, c.class_at-class.ensures, c.requires.within c.loop-node.node turn, turn, inv.len) in
    record {
      len = length-set c.loop-node.lists.items class c.push.new.self ∙ inv.len;
      each = λ v small.
          members-more (slice_index c.args.classes.now) c.loop-node.lists.items c.index_mut.result.now c.push.new.self c.loop-node.node class v c.class_at-class.ensures low
          c.index_mut.ensures.value c.in_ok-push.ensures (inv.each v small);
    }
