use Rattle.std.proofs.Common.{◌∙◌, ◌≤◌, ◌<◌, length, arith, sym}
use Rattle.splices.proofs.NodeSteps.{changed_start, replaced_start, changed_more, replaced_more}
use Rattle.splices.proofs.own_nodes.set_between.Goals as goal

pub loop-place-init : goal.loop-place-init
loop-place-init c = record {
  nodes = changed_start c.args.from _ c.args.nodes.now;
  replaced = replaced_start c.args.from c.args.command.now c.args.nodes.now ∙ sym c.new-replaced.ensures.items;
}

pub loop-place-preserved : goal.loop-place-preserved
loop-place-preserved c =
    let from = c.args.from in
    let k = c.loop-place.place in
    let nodes = c.loop-place.nodes in
    let low : from ≤ k = omega arith in
    let within : k < length nodes = omega (arith, c.requires.within, c.loop-place-test.true, c.loop-place.auto.nodes) in
    record {
      nodes = changed_more from k c.args.prefix.now c.args.command.now c.args.nodes.now nodes c.index-nodes-place.result c.set.new.self low within c.loop-place.invariant.nodes c.in_ok-set.ensures.settings;
      replaced = replaced_more from k c.args.prefix.now c.args.command.now c.args.nodes.now nodes c.index-nodes-place.result c.loop-place.replaced.items c.set.new.replaced.items low within c.loop-place.invariant.nodes c.loop-place.invariant.replaced c.in_ok-set.ensures.replaced;
    }
