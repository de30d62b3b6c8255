use Rattle.std.proofs.Common.{◌≡◌, ◌∙◌, ◌&&◌, not, [], true, false, refl, sym, ap}
use Rattle.run_plan.specs.Plan.{Plan}
use Rattle.sched_core.specs.Run.{is_aborted, outstanding}
use Rattle.recovery_manager.specs.Managed.{plan_of, past_of}
use Rattle.job_starter_drive.specs.Drives.{at_rest, limits_of, is_aborted_between, no_step}
use Rattle.job_starter_drive.proofs.RoundTurns.{turn-killed}
use Rattle.job_starter_drive.proofs.Stretches.{stretch-still, stretch-on}
use Rattle.job_starter_drive.proofs.Walks.{allows-self, goes-kills}
use Rattle.job_starter_drive.proofs.driving.turn.Goals as goal

pub returns-in-Some-clause-went : goal.returns-in-Some-clause-went
returns-in-Some-clause-went g c =
    let plan = plan_of c.args.manager.now in
    let past = past_of c.args.manager.now in
    let limits = limits_of c.args.manager.now in
    let may = g.S.Starter.may_return in
    let count = g.S.Starter.faults in
    let call_log = g.S.Starter.call_log in
    let old = c.args.manager.now in
    let from = at_rest past (call_log c.args.starter.now) in
    stretch-still g.D.Disk g.met.D.Disk.only_now limits plan (may c.args.starter.now) (may c.args.starter.now) (count c.args.starter.now) (count c.args.starter.now) old from refl refl c.keeps_the_law.ensures (allows-self (may c.args.starter.now))
    from refl no_step refl

pub returns-then-is_new-clause-in_step : goal.returns-then-is_new-clause-in_step
returns-then-is_new-clause-in_step g c =
    let plan = plan_of c.args.manager.now in
    let past = past_of c.args.manager.now in
    let limits = limits_of c.args.manager.now in
    let may = g.S.Starter.may_return in
    let count = g.S.Starter.faults in
    let call_log = g.S.Starter.call_log in
    let old = c.args.manager.now in
    let from = at_rest past (call_log c.args.starter.now) in
    let new = c.act.new.manager in
    let e = c.in_default-act.ensures in
    let turn = e.turn in
    let before = c.is_aborted-before.ensures in
    let now = c.is_aborted.ensures ∙ ap (λ (p : Plan). is_aborted p (past_of new)) e.went.plan_is in
    let flag : is_aborted_between plan past (past_of new) ≡ true = (λ j. not (sym before j) && sym now j) ∙ sym c.is_new.ensures ∙ c.if-is_new.true in
    turn-killed plan past (past_of new) (call_log c.act.new.starter) (call_log c.kill_all.new.starter) turn flag c.kill_all.ensures.none_left

pub returns-then-is_new-clause-went : goal.returns-then-is_new-clause-went
returns-then-is_new-clause-went g c =
    let plan = plan_of c.args.manager.now in
    let past = past_of c.args.manager.now in
    let limits = limits_of c.args.manager.now in
    let may = g.S.Starter.may_return in
    let count = g.S.Starter.faults in
    let call_log = g.S.Starter.call_log in
    let old = c.args.manager.now in
    let from = at_rest past (call_log c.args.starter.now) in
    let new = c.act.new.manager in
    let e = c.in_default-act.ensures in
    let turn = e.turn in
    let before = c.is_aborted-before.ensures in
    let now = c.is_aborted.ensures ∙ ap (λ (p : Plan). is_aborted p (past_of new)) e.went.plan_is in
    let flag : is_aborted_between plan past (past_of new) ≡ true = (λ j. not (sym before j) && sym now j) ∙ sym c.is_new.ensures ∙ c.if-is_new.true in
    let last = call_log c.act.new.starter in
    let killed = call_log c.kill_all.new.starter in
    let empty : outstanding (plan_of new) (past_of new) ≡ [] = ap (λ (p : Plan). outstanding p (past_of new)) e.went.plan_is ∙ turn.empty flag in
    stretch-on g.D.Disk limits plan (may c.args.starter.now) (may c.act.new.starter) (may c.kill_all.new.starter) (count c.args.starter.now) (count c.act.new.starter) (count c.kill_all.new.starter) old new new from (at_rest (past_of new) last) e.went
    (at_rest (past_of new) killed)
    (stretch-still g.D.Disk g.met.D.Disk.only_now (limits_of new) (plan_of new) (may c.act.new.starter) (may c.kill_all.new.starter) (count c.act.new.starter) (count c.kill_all.new.starter) new (at_rest (past_of new) last) refl refl c.keeps_the_law-then-is_new.ensures c.kill_all.ensures.may
    (at_rest (past_of new) killed) refl (goes-kills (limits_of new) (plan_of new) (may c.act.new.starter) (past_of new) last killed empty c.kill_all.ensures.kills) c.kill_all.ensures.unrefused)

pub returns-else-is_new-clause-in_step : goal.returns-else-is_new-clause-in_step
returns-else-is_new-clause-in_step g c =
    let plan = plan_of c.args.manager.now in
    let past = past_of c.args.manager.now in
    let limits = limits_of c.args.manager.now in
    let may = g.S.Starter.may_return in
    let count = g.S.Starter.faults in
    let call_log = g.S.Starter.call_log in
    let old = c.args.manager.now in
    let from = at_rest past (call_log c.args.starter.now) in
    let new = c.act.new.manager in
    let e = c.in_default-act.ensures in
    let turn = e.turn in
    let before = c.is_aborted-before.ensures in
    let now = c.is_aborted.ensures ∙ ap (λ (p : Plan). is_aborted p (past_of new)) e.went.plan_is in
    let flag : is_aborted_between plan past (past_of new) ≡ false = (λ j. not (sym before j) && sym now j) ∙ sym c.is_new.ensures ∙ c.if-is_new.false in
    turn.in_step flag
