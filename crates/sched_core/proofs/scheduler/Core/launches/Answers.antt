use Rattle.std.proofs.Common.{◌≡◌, ◌∙◌, List, [], ◌∷◌, ◌++◌, length, get_or, ap, sym, arith, rules}
use Rattle.std.proofs.lemmas.List.{length-reverse}
use Rattle.node_machine.specs.declared.Key.{Key}
use Rattle.node_machine.specs.declared.Phase.TheVariants.{Pre}
use Rattle.node_machine.specs.declared.Record.{Record}
use Rattle.node_machine.specs.declared.Record.TheVariants.{Launch}
use Rattle.sched_core.specs.Core.{Progress}
use Rattle.sched_core.proofs.Ahead.{launches-next, number-next, number-small}
use Rattle.sched_core.proofs.scheduler.Core.launches.Goals as goal

abbrev some : Key
some = record { node = 0; attempt = 0; phase = Pre }

pub count_jobs-number-requires : goal.count_jobs-number-requires
count_jobs-number-requires c =
    let small = number-small c.args.self.now.past c.args.keys.now c.loop-place.place c.loop-place.invariant.inside in
    let size : length c.deref.result.now ≡ length c.args.self.now.past =
    ap (λ (l : List Record). length l) c.deref.ensures.value ∙ sym (length-reverse c.self.inside.records.items) ∙ ap (λ (v : Progress). length v.past) c.self.view_is in
    omega (arith, small, size, c.count_both-all.ensures.small, c.loop-place.invariant.number, c.loop-place-test.true)

pub loop-place-preserved : goal.loop-place-preserved
loop-place-preserved c =
    let past = c.args.self.now.past in
    let keys = c.args.keys.now in
    let place = c.loop-place.place in
    let key = get_or keys place some in
    let inside = c.loop-place-test.true in
    let pushed : c.push.new.self.items ≡ c.loop-place.entries.items ++ Launch key c.number_of-own.result ∷ [] = search rules in
    record {
      inside = omega (arith, inside);
      entries = pushed ∙ (λ j. c.loop-place.invariant.entries j ++ Launch key (c.number_of-own.ensures j) ∷ [])
          ∙ sym (launches-next past keys place some c.loop-place.number inside c.loop-place.invariant.number);
      number = c.count_jobs-number.ensures ∙ number-next past keys place some c.number_of-own.result c.loop-place.number inside c.loop-place.invariant.number;
    }
