use Rattle.run_times.proofs.TimesPhases.{values-more, values-all}
use Rattle.run_times.proofs.times_data.phase_values.Goals as goal

pub loop-place-preserved : goal.loop-place-preserved
loop-place-preserved c =
    values-more c.args.runs.now c.args.marks.now c.loop-place.place _ _ c.loop-place.values.items c.push.new.self.items c.in_ok-phase_value.field-0 c.requires c.loop-place-test.true
    c.loop-place.invariant c.in_ok-phase_value.ensures c.in_ok-push.ensures.items

pub returns : goal.returns
returns c = values-all c.args.runs.now c.args.marks.now c.loop-place.place c.loop-place.values.items c.requires c.loop-place-test.false c.loop-place.invariant
