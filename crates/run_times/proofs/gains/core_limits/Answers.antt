use Rattle.run_times.proofs.Gaining.{limits-more}
use Rattle.run_times.proofs.gains.core_limits.Goals as goal

pub loop-limit-preserved : goal.loop-limit-preserved
loop-limit-preserved c =
    limits-more c.args.limits.now c.loop-limit.limit-index _ c.loop-limit.all c.with_number-all.result c.core_number.result c.loop-limit-test.true c.loop-limit.invariant
    c.core_number.ensures c.with_number-all.ensures
