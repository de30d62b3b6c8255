use Rattle.std.proofs.Common.{◌≡◌, ◌∙◌, suc, ap, sym, subst}
use Rattle.run_plan.specs.Plan.{Plan, count_of}
use Rattle.sched_core.specs.Core.{IsBestBelow, better_of}
use Rattle.sched_core.specs.Choices.{startable}
use Rattle.sched_core.proofs.Best.{best-step}
use Rattle.sched_core.proofs.scheduler.Core.best.Goals as goal

pub returns : goal.returns
returns c =
    let plan = c.args.self.now.plan in
    let last : c.count-count.result ≡ count_of plan = c.count-count.ensures.is ∙ ap count_of c.plan.ensures in
    let is : better_of plan c.best_ordinary.result c.startable.result ≡ c.better_of.result =
    sym (c.better_of.ensures ∙ ap (λ (p : Plan). better_of p c.best_ordinary.result c.startable.result) c.plan-2.ensures) in
    subst (IsBestBelow c.args.self.now.limits plan c.args.self.now.past (suc (count_of plan))) is
    (best-step c.args.self.now.limits plan c.args.self.now.past (count_of plan) c.best_ordinary.result c.startable.result c.best_ordinary.ensures
    (sym (c.startable.ensures ∙ ap (startable c.args.self.now.limits plan c.args.self.now.past) last)))
