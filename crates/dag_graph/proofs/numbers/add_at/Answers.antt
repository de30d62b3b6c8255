use Rattle.std.proofs.Common.{ℕ, ◌<◌, length, get_or, ◌∙◌, arith}
use Rattle.std.proofs.lemmas.List.{length-set}
use Rattle.dag_graph.proofs.Lists.{add_read}
use Rattle.dag_graph.proofs.numbers.add_at.Goals as goal

pub loop-place-preserved : goal.loop-place-preserved
loop-place-preserved c =
    let inv = c.loop-place.invariant in
    let place : ℕ = get_or c.args.places.now c.loop-place.place-index 0 in
    let turn : c.loop-place.place-index < length c.args.places.now = omega arith in
    let within : place < length c.loop-place.lists.items = omega (arith, c.requires.within c.loop-place.place-index 0 turn, inv.len) in
    record {
      len = length-set c.loop-place.lists.items place c.add.new.self ∙ inv.len;
      each = λ v small.
          add_read c.args.lists.now.items c.loop-place.lists.items c.args.places.now c.add.new.self c.index_mut.result.now c.loop-place.place-index c.args.number turn within (inv.len) c.requires.unused c.index_mut.ensures.value c.in_ok-add.ensures.kept c.in_ok-add.ensures.added v (inv.each v small);
    }
