use Rattle.std.proofs.Common.{◌≡◌, ◌∙◌, ◌∷◌, true, refl, sym, ap, subst}
use Rattle.run_plan.specs.Plan.{Plan}
use Rattle.node_machine.specs.declared.Record.TheVariants.{Finish}
use Rattle.sched_core.specs.Run.{is_lawful, is_aborted}
use Rattle.sched_core.proofs.Moves.{finish-follows}
use Rattle.event_journal_log.proofs.Moments as moments
use Rattle.recovery_manager.specs.Managed.{plan_of, past_of, disk_of}
use Rattle.recovery_manager.proofs.Sealing.{finished_own}
use Rattle.job_starter_drive.specs.Drives.{limits_of, at_rest}
use Rattle.job_starter_drive.proofs.Cuts.{kills-tell}
use Rattle.job_starter_drive.proofs.Images.{moment_hears, last_hears}
use Rattle.job_starter_drive.proofs.Steps.{fault-on}
use Rattle.job_starter_drive.proofs.driving.drive.Goals as goal

pub returns-in-Ok-clause-aborted : goal.returns-in-Ok-clause-aborted
returns-in-Ok-clause-aborted g c = c.is_aborted.ensures ∙ ap (λ (p : Plan). is_aborted p (past_of c.run.new.manager)) c.in-Ok.ensures.went.plan_is

pub returns-in-Ok-clause-ready : goal.returns-in-Ok-clause-ready
returns-in-Ok-clause-ready g c =
    finish-follows (limits_of c.args.manager.now) (plan_of c.args.manager.now) (past_of c.run.new.manager) c.in-Ok.verdict c.in-Ok.ensures.still c.in-Ok.ensures.over

pub returns-in-Ok-clause-fates : goal.returns-in-Ok-clause-fates
returns-in-Ok-clause-fates g c = λ abort_free.
    let plan = plan_of c.args.manager.now in
    let past = past_of c.run.new.manager in
    let lawful = subst (λ (p : Plan). is_lawful p past ≡ true) c.in-Ok.ensures.went.plan_is c.keeps_the_law.ensures in
    let ready = finish-follows (limits_of c.args.manager.now) plan past c.in-Ok.verdict c.in-Ok.ensures.still c.in-Ok.ensures.over in
    finished_own plan plan past past (Finish c.in-Ok.verdict ∷ past) c.in-Ok.verdict refl refl refl lawful ready
    (sym (c.is_aborted.ensures ∙ ap (λ (p : Plan). is_aborted p past) c.in-Ok.ensures.went.plan_is) ∙ abort_free)

pub returns-in-Err-clause-stopped : goal.returns-in-Err-clause-stopped
returns-in-Err-clause-stopped g c =
    let cut = c.in-Err.ensures.cut in
    record {
      refused = cut.refused;
      stopped = record { rest = g.S.Starter.call_log c.run.new.starter; halted = record { keys = cut.keys; owed = cut.owed; steps = cut.steps; stop = cut.stop }; kills = c.kill_all.ensures.kills };
      cause = fault-on _ _ _ _ _ _ cut.refused c.in-Err.fault c.kill_all.ensures.unrefused cut.cause;
    }

pub returns-in-Err-clause-any_moment : goal.returns-in-Err-clause-any_moment
returns-in-Err-clause-any_moment g c = λ honest header was.
    moments.weaker g.D.Disk (disk_of c.args.manager.now) (disk_of c.run.new.manager) _ _
    (moment_hears (limits_of c.args.manager.now) (plan_of c.args.manager.now) (g.S.Starter.may_return c.args.starter.now) (at_rest (past_of c.args.manager.now) (g.S.Starter.call_log c.args.starter.now)) header _ _ _ _ (kills-tell _ _ c.kill_all.ensures.kills))
    (c.in-Err.ensures.cut.any_moment honest header was)

pub returns-in-Err-clause-left : goal.returns-in-Err-clause-left
returns-in-Err-clause-left g c = λ honest header was image left.
    last_hears (limits_of c.args.manager.now) (plan_of c.args.manager.now) (g.S.Starter.may_return c.args.starter.now) (at_rest (past_of c.args.manager.now) (g.S.Starter.call_log c.args.starter.now)) header _ _ _ _ (kills-tell _ _ c.kill_all.ensures.kills) image
    (c.in-Err.ensures.cut.left honest header was image left)
