use Rattle.std.proofs.Common.{◌≡◌, subst, arith, false}
use Rattle.run_plan.specs.Plan.{count_of}
use Rattle.sched_core.specs.Core.{run_at}
use Rattle.sched_core.proofs.Turning.{stopped-all}
use Rattle.sched_core.proofs.advancing.stop_others.Goals as goal

pub returns-clause-runs : goal.returns-clause-runs
returns-clause-runs c =
    let init = c.args.states.now.runs in
    let many = c.requires.many.runs in let many' = c.loop-other.invariant.many.runs in
    let test = c.loop-other-test.false in let low = c.loop-other.auto.other-end in let e = c.count-other-end.ensures.is in
    stopped-all init c.loop-other.states.runs c.loop-other.other (omega (arith, many, many')) c.loop-other.invariant.runs
    (λ k ge lt. let at : count_of c.args.plan.now ≡ k = omega (arith, ge, lt, many, test, low, e) in
    subst (λ n. (run_at init n).running ≡ false) at c.requires.idle)
