use Rattle.std.proofs.Common.{arith, rules, [], ◌∙◌, refl, sym, subst, IfNone}
use Rattle.throttles.specs.declared.Limits.{Limits}
use Rattle.run_plan.specs.Plan.{Plan}
use Rattle.sched_core.specs.Run.{outstanding}
use Rattle.sched_core.specs.declared.Choice.TheVariants as choices
use Rattle.sched_core.specs.Choices.{IsChoice}
use Rattle.recovery_manager.specs.Managed.{plan_of, past_of}
use Rattle.job_starter_drive.specs.Drives.{at_rest, limits_of, AreInStep, IsNearerEnd, no_step, list_refused}
use Rattle.job_starter_drive.specs.Causes.{no_memory_for_command}
use Rattle.job_starter_drive.proofs.Stretches.{stretch-still, stretch-on, cut-on, cut-still}
use Rattle.job_starter_drive.proofs.Walks.{allows-self, no_child}
use Rattle.job_starter_drive.proofs.driving.run.Goals as goal

pub returns-in_default-clause-cut : goal.returns-in_default-clause-cut
returns-in_default-clause-cut g c =
    let plan = plan_of c.args.manager.now in
    let past = past_of c.args.manager.now in
    let limits = limits_of c.args.manager.now in
    let may = g.S.Starter.may_return in
    let count = g.S.Starter.faults in
    let call_log = g.S.Starter.call_log in
    let old = c.args.manager.now in
    let from = at_rest past (call_log c.args.starter.now) in
    cut-still g.D.Disk g.met.D.Disk.only_now limits plan (may c.args.starter.now) (may c.args.starter.now) (count c.args.starter.now) (count c.args.starter.now) old from refl refl c.keeps_the_law.ensures
    (allows-self (g.S.Starter.may_return c.args.starter.now)) [] [] (call_log c.args.starter.now) _ no_step list_refused (omega arith) (no_memory_for_command refl)

pub loop-verdict-init : goal.loop-verdict-init
loop-verdict-init g c = (
  stretch-still g.D.Disk g.met.D.Disk.only_now (limits_of c.args.manager.now) (plan_of c.args.manager.now) (g.S.Starter.may_return c.args.starter.now) (g.S.Starter.may_return c.args.starter.now) (g.S.Starter.faults c.args.starter.now) (g.S.Starter.faults c.args.starter.now) c.args.manager.now
      (at_rest (past_of c.args.manager.now) (g.S.Starter.call_log c.args.starter.now)) refl refl c.keeps_the_law.ensures (allows-self (g.S.Starter.may_return c.args.starter.now)) (at_rest (past_of c.args.manager.now) (g.S.Starter.call_log c.args.starter.now)) refl no_step refl,
  c.requires.in_step,
  c.requires.going,
  search rules,
)

pub turn-requires-clause-in_step : goal.turn-requires-clause-in_step
turn-requires-clause-in_step g c =
    let plan = plan_of c.args.manager.now in
    let past = past_of c.args.manager.now in
    let limits = limits_of c.args.manager.now in
    let may = g.S.Starter.may_return in
    let count = g.S.Starter.faults in
    let call_log = g.S.Starter.call_log in
    let old = c.args.manager.now in
    let from = at_rest past (call_log c.args.starter.now) in
    let i = c.loop-verdict.invariant in
    let mid = c.loop-verdict.manager in
    subst (λ (p : Plan). AreInStep p (past_of mid) (call_log c.loop-verdict.starter)) (sym i.0.plan_is) i.1

pub returns-in-Ok-Some-clause-went : goal.returns-in-Ok-Some-clause-went
returns-in-Ok-Some-clause-went g c =
    let plan = plan_of c.args.manager.now in
    let past = past_of c.args.manager.now in
    let limits = limits_of c.args.manager.now in
    let may = g.S.Starter.may_return in
    let count = g.S.Starter.faults in
    let call_log = g.S.Starter.call_log in
    let old = c.args.manager.now in
    let from = at_rest past (call_log c.args.starter.now) in
    let i = c.loop-verdict.invariant in
    let mid = c.loop-verdict.manager in
    let new = c.turn.new.manager in
    let via = at_rest (past_of mid) (call_log c.loop-verdict.starter) in
    stretch-on g.D.Disk limits plan (may c.args.starter.now) (may c.loop-verdict.starter) (may c.turn.new.starter) (count c.args.starter.now) (count c.loop-verdict.starter) (count c.turn.new.starter) old mid new from via i.0
    (at_rest (past_of new) (call_log c.turn.new.starter)) c.in-Ok-Some.ensures.went

pub returns-in-Ok-Some-clause-over : goal.returns-in-Ok-Some-clause-over
returns-in-Ok-Some-clause-over g c =
    let plan = plan_of c.args.manager.now in
    let past = past_of c.args.manager.now in
    let limits = limits_of c.args.manager.now in
    let may = g.S.Starter.may_return in
    let count = g.S.Starter.faults in
    let call_log = g.S.Starter.call_log in
    let old = c.args.manager.now in
    let from = at_rest past (call_log c.args.starter.now) in
    let i = c.loop-verdict.invariant in
    let mid = c.loop-verdict.manager in
    let new = c.turn.new.manager in
    let via = at_rest (past_of mid) (call_log c.loop-verdict.starter) in
    let over : IsChoice (limits_of mid) (plan_of mid) (past_of new) (choices.Finish c.in-Ok-Some.verdict) = search rules in
    subst (λ (l : Limits). IsChoice l plan (past_of new) (choices.Finish c.in-Ok-Some.verdict)) i.0.limits_are (subst (λ (p : Plan). IsChoice (limits_of mid) p (past_of new) (choices.Finish c.in-Ok-Some.verdict)) i.0.plan_is over)

pub returns-in-Ok-Some-clause-none_left : goal.returns-in-Ok-Some-clause-none_left
returns-in-Ok-Some-clause-none_left g c =
    let plan = plan_of c.args.manager.now in
    let past = past_of c.args.manager.now in
    let limits = limits_of c.args.manager.now in
    let may = g.S.Starter.may_return in
    let count = g.S.Starter.faults in
    let call_log = g.S.Starter.call_log in
    let old = c.args.manager.now in
    let from = at_rest past (call_log c.args.starter.now) in
    let i = c.loop-verdict.invariant in
    let mid = c.loop-verdict.manager in
    let new = c.turn.new.manager in
    let via = at_rest (past_of mid) (call_log c.loop-verdict.starter) in
    let over : IsChoice (limits_of mid) (plan_of mid) (past_of new) (choices.Finish c.in-Ok-Some.verdict) = search rules in
    c.in-Ok-Some.ensures.in_step.same ∙ no_child (outstanding (plan_of mid) (past_of new)) over.1

pub loop-verdict-preserved : goal.loop-verdict-preserved
loop-verdict-preserved g c =
    let plan = plan_of c.args.manager.now in
    let past = past_of c.args.manager.now in
    let limits = limits_of c.args.manager.now in
    let may = g.S.Starter.may_return in
    let count = g.S.Starter.faults in
    let call_log = g.S.Starter.call_log in
    let old = c.args.manager.now in
    let from = at_rest past (call_log c.args.starter.now) in
    let i = c.loop-verdict.invariant in
    let mid = c.loop-verdict.manager in
    let new = c.turn.new.manager in
    let via = at_rest (past_of mid) (call_log c.loop-verdict.starter) in
    let e = c.in-Ok-None.ensures in
    let nearer : IsNearerEnd (plan_of mid) (past_of mid) (past_of new) = subst (λ o. IfNone o (IsNearerEnd (plan_of mid) (past_of mid) (past_of new))) c.in-Ok-None.field-0-is e.nearer in (
      stretch-on g.D.Disk limits plan (may c.args.starter.now) (may c.loop-verdict.starter) (may c.turn.new.starter) (count c.args.starter.now) (count c.loop-verdict.starter) (count c.turn.new.starter) old mid new from via i.0
          (at_rest (past_of new) (call_log c.turn.new.starter)) c.in-Ok-None.ensures.went,
      subst (λ (p : Plan). AreInStep p (past_of new) (call_log c.turn.new.starter)) i.0.plan_is e.in_step,
      nearer.going,
      search rules,
    )

pub returns-in-Err-clause-cut : goal.returns-in-Err-clause-cut
returns-in-Err-clause-cut g c =
    let plan = plan_of c.args.manager.now in
    let past = past_of c.args.manager.now in
    let limits = limits_of c.args.manager.now in
    let may = g.S.Starter.may_return in
    let count = g.S.Starter.faults in
    let call_log = g.S.Starter.call_log in
    let old = c.args.manager.now in
    let from = at_rest past (call_log c.args.starter.now) in
    let i = c.loop-verdict.invariant in
    let mid = c.loop-verdict.manager in
    let new = c.turn.new.manager in
    let via = at_rest (past_of mid) (call_log c.loop-verdict.starter) in
    cut-on g.D.Disk limits plan (may c.args.starter.now) (may c.loop-verdict.starter) (may c.turn.new.starter) (count c.args.starter.now) (count c.loop-verdict.starter) (count c.turn.new.starter) old mid new from via i.0
    (call_log c.turn.new.starter) c.in-Err.fault c.in-Err.ensures.cut
