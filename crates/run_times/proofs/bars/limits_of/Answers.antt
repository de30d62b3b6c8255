use Rattle.std.proofs.Common.{◌-◌, ◌<◌, length, length-set, subst, ◌∙◌, arith}
use Rattle.std.proofs.lemmas.Option.{slice_get-get_or}
use Rattle.run_times.specs.Bars.{AreBarLimits}
use Rattle.run_times.proofs.Apart.{read-number, limits-step}
use Rattle.run_times.proofs.bars.limits_of.Goals as goal

pub loop-place-preserved : goal.loop-place-preserved
loop-place-preserved c =
    let place = c.loop-place.place - 1 in
    let kept = c.loop-place.invariant in
    let inside : place < length c.args.runs.now = omega (arith, kept.within, c.loop-place-test.true) in
    let of : place < length c.args.slots.now.of.items = omega (arith, inside, c.requires.each) in
    let slot = read-number c.args.slots.now.of.items place c.index-slot.result.now c.index-slot.ensures of in
    let below = c.requires.below place inside in
    let limit = read-number c.loop-place.next.items c.index-slot.result.now c.index.result.now c.index.ensures (omega (arith, slot, below, kept.slots)) in
    let step = limits-step c.args.canvas.now c.args.runs.now c.args.slots.now.of.items c.loop-place.limits.items c.loop-place.next.items place c.args.slots.now.count
    c.loop-place.place c.index-slot.result.now c.index.result.now c.place.result _ c.requires (slice_get-get_or c.args.runs.now place _ inside) inside kept.each kept.slots
    (omega (arith, c.loop-place-test.true)) kept.limits kept.next slot limit c.place.ensures in
    record {
      within = omega (arith, inside);
      slots = length-set c.loop-place.next.items c.index-slot.result.now c.place.result ∙ kept.slots;
      each = length-set c.loop-place.limits.items place c.index.result.now ∙ kept.each;
      limits = step.0;
      next = step.1;
    }

pub returns-clause-limits : goal.returns-clause-limits
returns-clause-limits c =
    subst (AreBarLimits c.args.canvas.now c.args.runs.now c.args.slots.now.of.items c.loop-place.limits.items) (omega (arith, c.loop-place-test.false)) c.loop-place.invariant.limits
