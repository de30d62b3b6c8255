use Rattle.std.proofs.Common.{arith}
use Rattle.run_times.proofs.Ends.{greatest_more}
use Rattle.run_times.proofs.soonest.greatest_time.Goals as goal

pub loop-number-preserved : goal.loop-number-preserved
loop-number-preserved c =
    omega (arith, c.max-most.ensures, c.loop-number.invariant, greatest_more c.args.numbers.now c.loop-number.number-index 0 c.loop-number-test.true)
