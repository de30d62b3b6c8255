use Rattle.std.proofs.Common.{List, refl, sym, subst, arith}
use Rattle.dag_main_rehearse.specs.Timed.{timings_of}
use Rattle.run_times.specs.declared.gains.Gain.{Gain}
use Rattle.run_times.specs.Gains.{TakesUnder, TakesWithout, AreGains, no_gains}
use Rattle.run_times.proofs.Gaining.{at-some, gain-by, counted-more, gains-more, all-gains}
use Rattle.run_times.proofs.gains.gains_of.Goals as goal

pub returns-then-is_empty : goal.returns-then-is_empty
returns-then-is_empty c = subst (AreGains c.args.plan.now.graph c.args.runs.now c.args.limits.now) (sym c.new-gains.ensures.items) no_gains

pub returns-in_default : goal.returns-in_default
returns-in_default c = subst (AreGains c.args.plan.now.graph c.args.runs.now c.args.limits.now) (sym c.new-gains.ensures.items) no_gains

pub returns-in_default-2 : goal.returns-in_default-2
returns-in_default-2 c = subst (AreGains c.args.plan.now.graph c.args.runs.now c.args.limits.now) (sym c.new.ensures.items) no_gains

pub loop-limit-preserved : goal.loop-limit-preserved
loop-limit-preserved c =
    let timings = timings_of c.in_ok-timetable.timetable in
    let under = at-some (TakesUnder c.core_limits-all.result c.args.plan.now timings) c.in_ok-under_all.field-0 c.in-Some.under_all c.in-Some.is c.in_ok-under_all.ensures in
    let without = at-some (TakesWithout c.args.plan.now.graph c.core_limits-all.result timings _) c.in_ok-without.field-0 c.in-Some-2.without c.in-Some-2.is c.in_ok-without.ensures in
    let gain = gain-by c.args.plan.now c.args.runs.now c.args.limits.now c.graph-2.result.now timings c.core_limits-all.result _ c.in-Some-2.without c.in-Some.under_all c.requires.plan
    c.core_limits-all.ensures c.graph-2.ensures.is c.in_ok-timetable.ensures.timings without under in
    record {
      counted = counted-more c.deref-limit-items.result.now c.loop-limit.limit-index _ c.loop-limit.gains.items _ _ c.loop-limit-test.true c.loop-limit.invariant.counted refl c.in_ok-push.ensures.items;
      each = gains-more c.args.plan.now.graph c.args.runs.now c.args.limits.now c.loop-limit.gains.items _ _ c.loop-limit.invariant.each gain c.in_ok-push.ensures.items;
    }

pub returns : goal.returns
returns c =
    all-gains c.args.plan.now.graph c.graph.result.now c.args.runs.now c.args.limits.now c.in_ok-full.full.items c.deref-limit-items.result.now c.loop-limit.limit-index c.loop-limit.gains.items
    (omega (arith, c.loop-limit-test.false)) c.deref-limit-items.ensures.value c.graph.ensures.is c.in_ok-full.ensures c.loop-limit.invariant.counted c.loop-limit.invariant.each
