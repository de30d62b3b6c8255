use Rattle.std.proofs.Common.{◌≡◌, true, sym, ◌∙◌, subst, IsTrue}
use Rattle.sched_core.specs.Core.{Progress}
use Rattle.sched_core.specs.Run.{needs_rescue}
use Rattle.recovery_manager.specs.Managed.{plan_of, past_of}
use Rattle.recovery_manager.specs.Seal.{needs_rescue_now, IsRescueFault, sealed_disk}
use Rattle.run_round.specs.Causes.{IsSealFault}
use Rattle.run_round.specs.RunToEnd.{StaysHonest}
use Rattle.std.proofs.lemmas.Result.{IfOk-weaker}
use Rattle.run_round.proofs.Refusals.{seal-fault, of-fault, honest-disk}
use Rattle.run_round.proofs.leading.sealed.Goals as goal

pub returns-then-needs_rescue-clause-refused : goal.returns-then-needs_rescue-clause-refused
returns-then-needs_rescue-clause-refused g c =
    let plan = plan_of c.args.manager.now in let past = past_of c.args.manager.now in
    of-fault (λ e. IsRescueFault g.R.Disk plan past c.args.rescue e.0 e.1)
    (λ e. IsTrue (needs_rescue_now plan past) × IsSealFault g.R.Disk plan past c.args.rescue e.0 e.1) c.write_rescue.result
    (λ e why. seal-fault g.R.Disk plan past c.args.rescue e.0 c.requires.ends
    (subst (λ (p : Progress). needs_rescue p.plan p.past ≡ true) c.core.ensures.lends (sym c.needs_rescue.ensures ∙ c.if-needs_rescue.true)) why)
    c.write_rescue.ensures.refused

pub returns-then-needs_rescue-clause-keeps : goal.returns-then-needs_rescue-clause-keeps
returns-then-needs_rescue-clause-keeps g c = λ honest.
    IfOk-weaker c.write_rescue.result _ _ (λ seal is. honest-disk g.R.Disk _ (sealed_disk seal) is) (c.write_rescue.ensures.written honest)

pub returns-in-Ok-clause-keeps : goal.returns-in-Ok-clause-keeps
returns-in-Ok-clause-keeps g c = λ honest. subst (StaysHonest g.R.Disk) (sym c.in-Ok.ensures.none) tt
