use Rattle.std.proofs.Common.{◌≡◌, [], ◌∷◌, true, rules, List, Some, None, inl, inr, refl, ap, sym, ◌∙◌, subst}
use Rattle.std.proofs.lemmas.Bool.{and_from}
use Rattle.run_plan.specs.Plan.{Plan}
use Rattle.sched_core.specs.Core.{Progress}
use Rattle.sched_core.specs.Run.{is_lawful, may_follow, exit_status}
use Rattle.recovery_manager.specs.Managed.{plan_of, past_of, disk_of}
use Rattle.recovery_manager.specs.Seal.{IsRescued}
use Rattle.job_starter_drive.specs.Drives.{limits_of, at_rest}
use Rattle.job_starter_drive.specs.declared.driving.DriveFault.TheVariants as drives
use Rattle.status_report.specs.Text.{run_text}
use Rattle.node_machine.specs.declared.Record.{Record}
use Rattle.node_machine.specs.declared.Record.TheVariants.{Finish}
use Rattle.job_starter_drive.proofs.Cuts.{older-self, older-is, goes-records}
use Rattle.job_starter_drive.proofs.Disks.{keeps_on}
use Rattle.job_starter_drive.proofs.Handing.{driven, stopped}
use Rattle.job_starter_drive.proofs.Images.{standing_call, refused_call, refused_stays, may-older, at_end, at_ease, on_unless}
use Rattle.job_starter_drive.specs.Spawned.{SpawnsAllButSome}
use Rattle.run_round.specs.RunToEnd.{IsSuffix, IsAtEnd}
use Rattle.run_round.specs.Causes.{stopped as was_stopped, not_sealed, end_refused, no_memory_for_report}
use Rattle.run_round.proofs.Refusals.{ends-now, end-refusal, end-refused}
use Rattle.run_round.proofs.Ends.{one-more, older-finished, led-by, stopped-adds, finished-adds, finished-hands, all-but-none, then_end, end_last, end_rest, steps_rest, steps_last, lead_run, lead_grown, to-end}
use Rattle.run_round.proofs.leading.run_to_end.Goals as goal

pub returns-in-Ok-run_text-clause-led : goal.returns-in-Ok-run_text-clause-led
returns-in-Ok-run_text-clause-led g c =
    led-by _ c.args.plan.now (plan_of c.args.manager.now) (plan_of c.drive.new.manager) (plan_of c.finish.new.self)
    c.requires.own c.in-Ok.ensures.plan c.in-Ok-finish.ensures.plan
    (past_of c.args.manager.now) (past_of c.drive.new.manager) (past_of c.finish.new.self) _ c.in-Ok.end.verdict
    (g.S.Starter.may_return c.args.starter.now) _ _ c.in-Ok.ensures.steps c.in-Ok.ensures.over
    (subst (λ (p : Progress). is_lawful p.plan p.past ≡ true) c.core.ensures.lends c.keeps_the_law.ensures)
    c.in-Ok-finish.ensures.lawful c.in-Ok-finish.ensures.past c.in-Ok-finish.ensures.own_fates
    (c.in-Ok-run_text.ensures ∙ ap (λ (p : Progress). run_text p.plan p.past c.in-Ok.end.verdict) c.core-2.ensures.lends)

pub returns-in-Err-clause-goes_on : goal.returns-in-Err-clause-goes_on
returns-in-Err-clause-goes_on g c =
    stopped-adds (limits_of c.args.manager.now) (plan_of c.args.manager.now) (g.S.Starter.may_return c.args.starter.now) (past_of c.args.manager.now) (g.S.Starter.call_log c.args.starter.now) c.in-Err.fault c.in-Err.ensures.stopped.refused (past_of c.drive.new.manager) (g.S.Starter.call_log c.drive.new.starter) c.in-Err.ensures.stopped.stopped

pub returns-in-Err-clause-hands_over_err : goal.returns-in-Err-clause-hands_over_err
returns-in-Err-clause-hands_over_err g c =
    stopped (limits_of c.args.manager.now) (plan_of c.args.manager.now) (g.S.Starter.may_return c.args.starter.now) (past_of c.args.manager.now) (g.S.Starter.call_log c.args.starter.now) c.in-Err.fault c.in-Err.ensures.stopped.refused (past_of c.drive.new.manager) (g.S.Starter.call_log c.drive.new.starter) c.in-Err.ensures.stopped.stopped

pub returns-in-Err-sealed-clause-goes_on : goal.returns-in-Err-sealed-clause-goes_on
returns-in-Err-sealed-clause-goes_on g c =
    goes-records (limits_of c.args.manager.now) (plan_of c.args.manager.now) (g.S.Starter.may_return c.args.starter.now) (at_rest (past_of c.args.manager.now) (g.S.Starter.call_log c.args.starter.now)) (at_rest (past_of c.drive.new.manager) (g.S.Starter.call_log c.drive.new.starter)) c.in-Ok.ensures.steps

pub returns-in-Err-sealed-clause-hands_over_err : goal.returns-in-Err-sealed-clause-hands_over_err
returns-in-Err-sealed-clause-hands_over_err g c =
    all-but-none (plan_of c.args.manager.now) (past_of c.args.manager.now) (past_of c.drive.new.manager) (g.S.Starter.call_log c.args.starter.now) (g.S.Starter.call_log c.drive.new.starter)
    (driven (limits_of c.args.manager.now) (plan_of c.args.manager.now) (g.S.Starter.may_return c.args.starter.now) (past_of c.args.manager.now) (g.S.Starter.call_log c.args.starter.now) (past_of c.drive.new.manager) (g.S.Starter.call_log c.drive.new.starter) c.in-Ok.ensures.steps)

pub returns-in-Err-finish-clause-goes_on : goal.returns-in-Err-finish-clause-goes_on
returns-in-Err-finish-clause-goes_on g c =
    subst (IsSuffix (past_of c.args.manager.now)) (sym c.in-Err-finish.ensures.past_err)
    (goes-records (limits_of c.args.manager.now) (plan_of c.args.manager.now) (g.S.Starter.may_return c.args.starter.now) (at_rest (past_of c.args.manager.now) (g.S.Starter.call_log c.args.starter.now)) (at_rest (past_of c.drive.new.manager) (g.S.Starter.call_log c.drive.new.starter)) c.in-Ok.ensures.steps)

pub returns-in-Err-finish-clause-hands_over_err : goal.returns-in-Err-finish-clause-hands_over_err
returns-in-Err-finish-clause-hands_over_err g c =
    subst (λ (l : List Record). SpawnsAllButSome (plan_of c.args.manager.now) (past_of c.args.manager.now) l (g.S.Starter.call_log c.args.starter.now) (g.S.Starter.call_log c.drive.new.starter)) (sym c.in-Err-finish.ensures.past_err)
    (all-but-none (plan_of c.args.manager.now) (past_of c.args.manager.now) (past_of c.drive.new.manager) (g.S.Starter.call_log c.args.starter.now) (g.S.Starter.call_log c.drive.new.starter)
    (driven (limits_of c.args.manager.now) (plan_of c.args.manager.now) (g.S.Starter.may_return c.args.starter.now) (past_of c.args.manager.now) (g.S.Starter.call_log c.args.starter.now) (past_of c.drive.new.manager) (g.S.Starter.call_log c.drive.new.starter) c.in-Ok.ensures.steps))

pub returns-in-Ok-run_text-clause-goes_on : goal.returns-in-Ok-run_text-clause-goes_on
returns-in-Ok-run_text-clause-goes_on g c =
    finished-adds (past_of c.args.manager.now) (past_of c.drive.new.manager) (past_of c.finish.new.self) _
    (goes-records (limits_of c.args.manager.now) (plan_of c.args.manager.now) (g.S.Starter.may_return c.args.starter.now) (at_rest (past_of c.args.manager.now) (g.S.Starter.call_log c.args.starter.now)) (at_rest (past_of c.drive.new.manager) (g.S.Starter.call_log c.drive.new.starter)) c.in-Ok.ensures.steps) c.in-Ok-finish.ensures.past

pub returns-in-Err-run_text-clause-goes_on : goal.returns-in-Err-run_text-clause-goes_on
returns-in-Err-run_text-clause-goes_on g c =
    finished-adds (past_of c.args.manager.now) (past_of c.drive.new.manager) (past_of c.finish.new.self) _
    (goes-records (limits_of c.args.manager.now) (plan_of c.args.manager.now) (g.S.Starter.may_return c.args.starter.now) (at_rest (past_of c.args.manager.now) (g.S.Starter.call_log c.args.starter.now)) (at_rest (past_of c.drive.new.manager) (g.S.Starter.call_log c.drive.new.starter)) c.in-Ok.ensures.steps) c.in-Ok-finish.ensures.past

pub returns-in-Ok-run_text-clause-spawns : goal.returns-in-Ok-run_text-clause-spawns
returns-in-Ok-run_text-clause-spawns g c =
    finished-hands (plan_of c.args.manager.now) (past_of c.args.manager.now) (past_of c.drive.new.manager) (past_of c.finish.new.self) _ (g.S.Starter.call_log c.args.starter.now) (g.S.Starter.call_log c.drive.new.starter)
    (driven (limits_of c.args.manager.now) (plan_of c.args.manager.now) (g.S.Starter.may_return c.args.starter.now) (past_of c.args.manager.now) (g.S.Starter.call_log c.args.starter.now) (past_of c.drive.new.manager) (g.S.Starter.call_log c.drive.new.starter) c.in-Ok.ensures.steps) c.in-Ok-finish.ensures.past

pub returns-in-Err-run_text-clause-hands_over_err : goal.returns-in-Err-run_text-clause-hands_over_err
returns-in-Err-run_text-clause-hands_over_err g c =
    all-but-none (plan_of c.args.manager.now) (past_of c.args.manager.now) (past_of c.finish.new.self) (g.S.Starter.call_log c.args.starter.now) (g.S.Starter.call_log c.drive.new.starter)
    (finished-hands (plan_of c.args.manager.now) (past_of c.args.manager.now) (past_of c.drive.new.manager) (past_of c.finish.new.self) _ (g.S.Starter.call_log c.args.starter.now) (g.S.Starter.call_log c.drive.new.starter)
    (driven (limits_of c.args.manager.now) (plan_of c.args.manager.now) (g.S.Starter.may_return c.args.starter.now) (past_of c.args.manager.now) (g.S.Starter.call_log c.args.starter.now) (past_of c.drive.new.manager) (g.S.Starter.call_log c.drive.new.starter) c.in-Ok.ensures.steps) c.in-Ok-finish.ensures.past)

pub returns-in-Err-clause-any_moment : goal.returns-in-Err-clause-any_moment
returns-in-Err-clause-any_moment g c = λ honest header was.
    lead_run g.R.Disk (Some c.args.rescue) (limits_of c.args.manager.now) (plan_of c.args.manager.now) (g.S.Starter.may_return c.args.starter.now) (past_of c.args.manager.now) (g.S.Starter.call_log c.args.starter.now) header g.D.Disk _ _ _ _ _ (c.in-Err.ensures.any_moment honest header was)

pub returns-in-Err-clause-left : goal.returns-in-Err-clause-left
returns-in-Err-clause-left g c = λ honest header was image left. inl (c.in-Err.ensures.left honest header was image left)

pub returns-in-Err-sealed-clause-any_moment : goal.returns-in-Err-sealed-clause-any_moment
returns-in-Err-sealed-clause-any_moment g c = λ honest header was.
    lead_grown g.R.Disk (Some c.in-Err-sealed.rescue) (limits_of c.args.manager.now) (plan_of c.args.manager.now) (g.S.Starter.may_return c.args.starter.now) (past_of c.args.manager.now) (g.S.Starter.call_log c.args.starter.now) header g.D.Disk _ _ _ _ _ _ (older-self _) (c.in-Ok.ensures.any_moment honest header was)

pub returns-in-Err-sealed-clause-left : goal.returns-in-Err-sealed-clause-left
returns-in-Err-sealed-clause-left g c = λ honest header was image left.
    steps_rest g.R.Disk (Some c.in-Err-sealed.rescue) (limits_of c.args.manager.now) (plan_of c.args.manager.now) (g.S.Starter.may_return c.args.starter.now) (past_of c.args.manager.now) (g.S.Starter.call_log c.args.starter.now) header _ _ _ image (subst (λ (p : Plan). is_lawful p (past_of c.drive.new.manager) ≡ true) c.in-Ok.ensures.plan (subst (λ (p : Progress). is_lawful p.plan p.past ≡ true) c.core.ensures.lends c.keeps_the_law.ensures)) c.in-Ok.ensures.steps
    (at_ease g.D.Disk header c.drive.new.manager image (c.in-Ok.ensures.acknowledged honest header was) left)

pub returns-in-Err-sealed-clause-acknowledged : goal.returns-in-Err-sealed-clause-acknowledged
returns-in-Err-sealed-clause-acknowledged g c = inr c.in-Ok.ensures.acknowledged

pub returns-in-Err-finish-clause-any_moment : goal.returns-in-Err-finish-clause-any_moment
returns-in-Err-finish-clause-any_moment g c = λ honest header was.
    then_end g.R.Disk _ (limits_of c.args.manager.now) (plan_of c.args.manager.now) (g.S.Starter.may_return c.args.starter.now) (past_of c.args.manager.now) (g.S.Starter.call_log c.args.starter.now) header g.D.Disk _ _ _ _ _ _ (Some (drives.Manager c.in-Err-finish.fault)) _ _
    (record { lawful = (subst (λ (p : Plan). is_lawful p (past_of c.drive.new.manager) ≡ true) c.in-Ok.ensures.plan (subst (λ (p : Progress). is_lawful p.plan p.past ≡ true) c.core.ensures.lends c.keeps_the_law.ensures)); follows = (subst (λ (p : Plan). may_follow p (past_of c.drive.new.manager) (Finish (exit_status (plan_of c.drive.new.manager) (past_of c.drive.new.manager))) ≡ true) c.in-Ok.ensures.plan (ends-now (limits_of c.args.manager.now) (plan_of c.args.manager.now) (plan_of c.drive.new.manager) c.in-Ok.ensures.plan (past_of c.drive.new.manager) c.in-Ok.end.verdict c.in-Ok.ensures.over c.in-Ok.ensures.ready)); steps = c.in-Ok.ensures.steps; ended = to-end (limits_of c.args.manager.now) (plan_of c.args.manager.now) (plan_of c.drive.new.manager) c.in-Ok.ensures.plan (g.S.Starter.may_return c.args.starter.now) (past_of c.args.manager.now) (past_of c.drive.new.manager) _ (g.S.Starter.call_log c.args.starter.now) (g.S.Starter.call_log c.drive.new.starter) c.in-Ok.end.verdict c.in-Ok.ensures.steps c.in-Ok.ensures.over refl; rescued = subst (λ (p : Plan). IsRescued g.R.Disk p (past_of c.drive.new.manager) c.into_disk.result) c.in-Ok.ensures.plan (search rules); part = inl (older-is _ _ c.in-Err-finish.ensures.past_err); more = λ stands. inr (stands, one-more _ _ _ c.in-Err-finish.ensures.past_err) })
    (older-is _ _ c.in-Err-finish.ensures.past_err) (c.in-Ok.ensures.any_moment honest header was)
    ((refused_call g.D.Disk g.met.D.Disk.only_now c.drive.new.manager c.finish.new.self (Finish (exit_status (plan_of c.drive.new.manager) (past_of c.drive.new.manager)) ∷ past_of c.drive.new.manager) c.in-Err-finish.ensures.any_moment c.in-Err-finish.ensures.broken (Finish (exit_status (plan_of c.drive.new.manager) (past_of c.drive.new.manager)) ∷ []) c.in-Err-finish.fault (end-refusal g.D.Disk (plan_of c.drive.new.manager) (past_of c.drive.new.manager) _ c.drive.new.manager.journal c.finish.new.self.journal c.in-Err-finish.fault (ends-now (limits_of c.args.manager.now) (plan_of c.args.manager.now) (plan_of c.drive.new.manager) c.in-Ok.ensures.plan (past_of c.drive.new.manager) c.in-Ok.end.verdict c.in-Ok.ensures.over c.in-Ok.ensures.ready) c.in-Ok-sealed.ensures.sealed.count c.in-Err-finish.ensures.refused)) (c.in-Ok.ensures.disk.keeps honest) header (c.in-Ok.ensures.acknowledged honest header was))

pub returns-in-Err-finish-clause-left : goal.returns-in-Err-finish-clause-left
returns-in-Err-finish-clause-left g c = λ honest header was image left.
    end_last g.R.Disk _ (limits_of c.args.manager.now) (plan_of c.args.manager.now) (g.S.Starter.may_return c.args.starter.now) (past_of c.args.manager.now) (g.S.Starter.call_log c.args.starter.now) header (Some (drives.Manager c.in-Err-finish.fault)) _ _ _ _ _ image
    (record { lawful = (subst (λ (p : Plan). is_lawful p (past_of c.drive.new.manager) ≡ true) c.in-Ok.ensures.plan (subst (λ (p : Progress). is_lawful p.plan p.past ≡ true) c.core.ensures.lends c.keeps_the_law.ensures)); follows = (subst (λ (p : Plan). may_follow p (past_of c.drive.new.manager) (Finish (exit_status (plan_of c.drive.new.manager) (past_of c.drive.new.manager))) ≡ true) c.in-Ok.ensures.plan (ends-now (limits_of c.args.manager.now) (plan_of c.args.manager.now) (plan_of c.drive.new.manager) c.in-Ok.ensures.plan (past_of c.drive.new.manager) c.in-Ok.end.verdict c.in-Ok.ensures.over c.in-Ok.ensures.ready)); steps = c.in-Ok.ensures.steps; ended = to-end (limits_of c.args.manager.now) (plan_of c.args.manager.now) (plan_of c.drive.new.manager) c.in-Ok.ensures.plan (g.S.Starter.may_return c.args.starter.now) (past_of c.args.manager.now) (past_of c.drive.new.manager) _ (g.S.Starter.call_log c.args.starter.now) (g.S.Starter.call_log c.drive.new.starter) c.in-Ok.end.verdict c.in-Ok.ensures.steps c.in-Ok.ensures.over refl; rescued = subst (λ (p : Plan). IsRescued g.R.Disk p (past_of c.drive.new.manager) c.into_disk.result) c.in-Ok.ensures.plan (search rules); part = inl (older-is _ _ c.in-Err-finish.ensures.past_err); more = λ stands. inr (stands, one-more _ _ _ c.in-Err-finish.ensures.past_err) })
    c.in-Err-finish.ensures.past_err
    (at_end g.D.Disk g.met.D.Disk.counts_now (disk_of c.drive.new.manager) (disk_of c.finish.new.self) _
    (c.finish.ensures.keeps.keeps (c.in-Ok.ensures.disk.keeps honest))
    ((refused_call g.D.Disk g.met.D.Disk.only_now c.drive.new.manager c.finish.new.self (Finish (exit_status (plan_of c.drive.new.manager) (past_of c.drive.new.manager)) ∷ past_of c.drive.new.manager) c.in-Err-finish.ensures.any_moment c.in-Err-finish.ensures.broken (Finish (exit_status (plan_of c.drive.new.manager) (past_of c.drive.new.manager)) ∷ []) c.in-Err-finish.fault (end-refusal g.D.Disk (plan_of c.drive.new.manager) (past_of c.drive.new.manager) _ c.drive.new.manager.journal c.finish.new.self.journal c.in-Err-finish.fault (ends-now (limits_of c.args.manager.now) (plan_of c.args.manager.now) (plan_of c.drive.new.manager) c.in-Ok.ensures.plan (past_of c.drive.new.manager) c.in-Ok.end.verdict c.in-Ok.ensures.over c.in-Ok.ensures.ready) c.in-Ok-sealed.ensures.sealed.count c.in-Err-finish.ensures.refused)) (c.in-Ok.ensures.disk.keeps honest) header (c.in-Ok.ensures.acknowledged honest header was)) image left)

pub returns-in-Err-finish-clause-acknowledged : goal.returns-in-Err-finish-clause-acknowledged
returns-in-Err-finish-clause-acknowledged g c =
    on_unless (Some (drives.Manager c.in-Err-finish.fault)) _ _
    (λ second honest header was. second (c.in-Ok.ensures.disk.keeps honest) header (c.in-Ok.ensures.acknowledged honest header was))
    (refused_stays g.D.Disk g.met.D.Disk.only_now c.drive.new.manager c.finish.new.self (Finish (exit_status (plan_of c.drive.new.manager) (past_of c.drive.new.manager)) ∷ []) c.in-Err-finish.fault
    c.in-Err-finish.ensures.past_err (end-refusal g.D.Disk (plan_of c.drive.new.manager) (past_of c.drive.new.manager) _ c.drive.new.manager.journal c.finish.new.self.journal c.in-Err-finish.fault (ends-now (limits_of c.args.manager.now) (plan_of c.args.manager.now) (plan_of c.drive.new.manager) c.in-Ok.ensures.plan (past_of c.drive.new.manager) c.in-Ok.end.verdict c.in-Ok.ensures.over c.in-Ok.ensures.ready) c.in-Ok-sealed.ensures.sealed.count c.in-Err-finish.ensures.refused))

pub returns-in-Ok-run_text-clause-any_moment : goal.returns-in-Ok-run_text-clause-any_moment
returns-in-Ok-run_text-clause-any_moment g c = λ honest header was.
    then_end g.R.Disk _ (limits_of c.args.manager.now) (plan_of c.args.manager.now) (g.S.Starter.may_return c.args.starter.now) (past_of c.args.manager.now) (g.S.Starter.call_log c.args.starter.now) header g.D.Disk _ _ _ _ _ _ None _ _
    (record { lawful = (subst (λ (p : Plan). is_lawful p (past_of c.drive.new.manager) ≡ true) c.in-Ok.ensures.plan (subst (λ (p : Progress). is_lawful p.plan p.past ≡ true) c.core.ensures.lends c.keeps_the_law.ensures)); follows = (subst (λ (p : Plan). may_follow p (past_of c.drive.new.manager) (Finish (exit_status (plan_of c.drive.new.manager) (past_of c.drive.new.manager))) ≡ true) c.in-Ok.ensures.plan (ends-now (limits_of c.args.manager.now) (plan_of c.args.manager.now) (plan_of c.drive.new.manager) c.in-Ok.ensures.plan (past_of c.drive.new.manager) c.in-Ok.end.verdict c.in-Ok.ensures.over c.in-Ok.ensures.ready)); steps = c.in-Ok.ensures.steps; ended = to-end (limits_of c.args.manager.now) (plan_of c.args.manager.now) (plan_of c.drive.new.manager) c.in-Ok.ensures.plan (g.S.Starter.may_return c.args.starter.now) (past_of c.args.manager.now) (past_of c.drive.new.manager) _ (g.S.Starter.call_log c.args.starter.now) (g.S.Starter.call_log c.drive.new.starter) c.in-Ok.end.verdict c.in-Ok.ensures.steps c.in-Ok.ensures.over refl; rescued = subst (λ (p : Plan). IsRescued g.R.Disk p (past_of c.drive.new.manager) c.in-Ok-finish.rescue) c.in-Ok.ensures.plan (search rules); part = may-older None _ _ (older-finished _ _ _ c.in-Ok-finish.ensures.past); more = λ stands. may-older None _ _ (older-is _ _ c.in-Ok-finish.ensures.past) })
    (older-finished _ _ _ c.in-Ok-finish.ensures.past) (c.in-Ok.ensures.any_moment honest header was)
    (standing_call g.D.Disk g.met.D.Disk.only_now c.drive.new.manager c.finish.new.self (Finish (exit_status (plan_of c.drive.new.manager) (past_of c.drive.new.manager)) ∷ past_of c.drive.new.manager) c.in-Ok-finish.ensures.any_moment c.in-Ok-finish.ensures.broken None tt
    (c.in-Ok.ensures.disk.keeps honest) header (c.in-Ok.ensures.acknowledged honest header was))

pub returns-in-Ok-run_text-clause-left : goal.returns-in-Ok-run_text-clause-left
returns-in-Ok-run_text-clause-left g c = λ honest header was image left.
    end_rest g.R.Disk _ (limits_of c.args.manager.now) (plan_of c.args.manager.now) (g.S.Starter.may_return c.args.starter.now) (past_of c.args.manager.now) (g.S.Starter.call_log c.args.starter.now) header _ _ _ image
    (subst (λ (l : List Record). is_lawful (plan_of c.args.manager.now) l ≡ true) (sym c.in-Ok-finish.ensures.past) (and_from _ _ (subst (λ (p : Plan). is_lawful p (past_of c.drive.new.manager) ≡ true) c.in-Ok.ensures.plan (subst (λ (p : Progress). is_lawful p.plan p.past ≡ true) c.core.ensures.lends c.keeps_the_law.ensures)) (subst (λ (p : Plan). may_follow p (past_of c.drive.new.manager) (Finish (exit_status (plan_of c.drive.new.manager) (past_of c.drive.new.manager))) ≡ true) c.in-Ok.ensures.plan (ends-now (limits_of c.args.manager.now) (plan_of c.args.manager.now) (plan_of c.drive.new.manager) c.in-Ok.ensures.plan (past_of c.drive.new.manager) c.in-Ok.end.verdict c.in-Ok.ensures.over c.in-Ok.ensures.ready))))
    (to-end (limits_of c.args.manager.now) (plan_of c.args.manager.now) (plan_of c.drive.new.manager) c.in-Ok.ensures.plan (g.S.Starter.may_return c.args.starter.now) (past_of c.args.manager.now) (past_of c.drive.new.manager) _ (g.S.Starter.call_log c.args.starter.now) (g.S.Starter.call_log c.drive.new.starter) c.in-Ok.end.verdict c.in-Ok.ensures.steps c.in-Ok.ensures.over c.in-Ok-finish.ensures.past)
    (subst (λ (p : Plan). IsRescued g.R.Disk p (past_of c.drive.new.manager) c.in-Ok-finish.rescue) c.in-Ok.ensures.plan (search rules))
    (at_ease g.D.Disk header c.finish.new.self image
    (c.in-Ok-finish.ensures.acknowledged (c.in-Ok.ensures.disk.keeps honest) header (c.in-Ok.ensures.acknowledged honest header was).reads) left)

pub returns-in-Err-run_text-clause-any_moment : goal.returns-in-Err-run_text-clause-any_moment
returns-in-Err-run_text-clause-any_moment g c = λ honest header was.
    then_end g.R.Disk _ (limits_of c.args.manager.now) (plan_of c.args.manager.now) (g.S.Starter.may_return c.args.starter.now) (past_of c.args.manager.now) (g.S.Starter.call_log c.args.starter.now) header g.D.Disk _ _ _ _ _ _ None _ _
    (record { lawful = (subst (λ (p : Plan). is_lawful p (past_of c.drive.new.manager) ≡ true) c.in-Ok.ensures.plan (subst (λ (p : Progress). is_lawful p.plan p.past ≡ true) c.core.ensures.lends c.keeps_the_law.ensures)); follows = (subst (λ (p : Plan). may_follow p (past_of c.drive.new.manager) (Finish (exit_status (plan_of c.drive.new.manager) (past_of c.drive.new.manager))) ≡ true) c.in-Ok.ensures.plan (ends-now (limits_of c.args.manager.now) (plan_of c.args.manager.now) (plan_of c.drive.new.manager) c.in-Ok.ensures.plan (past_of c.drive.new.manager) c.in-Ok.end.verdict c.in-Ok.ensures.over c.in-Ok.ensures.ready)); steps = c.in-Ok.ensures.steps; ended = to-end (limits_of c.args.manager.now) (plan_of c.args.manager.now) (plan_of c.drive.new.manager) c.in-Ok.ensures.plan (g.S.Starter.may_return c.args.starter.now) (past_of c.args.manager.now) (past_of c.drive.new.manager) _ (g.S.Starter.call_log c.args.starter.now) (g.S.Starter.call_log c.drive.new.starter) c.in-Ok.end.verdict c.in-Ok.ensures.steps c.in-Ok.ensures.over refl; rescued = subst (λ (p : Plan). IsRescued g.R.Disk p (past_of c.drive.new.manager) c.in-Ok-finish.rescue) c.in-Ok.ensures.plan (search rules); part = may-older (Some drives.Memory) _ _ (older-finished _ _ _ c.in-Ok-finish.ensures.past); more = λ stands. may-older (Some drives.Memory) _ _ (older-is _ _ c.in-Ok-finish.ensures.past) })
    (older-finished _ _ _ c.in-Ok-finish.ensures.past) (c.in-Ok.ensures.any_moment honest header was)
    (standing_call g.D.Disk g.met.D.Disk.only_now c.drive.new.manager c.finish.new.self (Finish (exit_status (plan_of c.drive.new.manager) (past_of c.drive.new.manager)) ∷ past_of c.drive.new.manager) c.in-Ok-finish.ensures.any_moment c.in-Ok-finish.ensures.broken None tt
    (c.in-Ok.ensures.disk.keeps honest) header (c.in-Ok.ensures.acknowledged honest header was))

pub returns-in-Err-run_text-clause-left : goal.returns-in-Err-run_text-clause-left
returns-in-Err-run_text-clause-left g c = λ honest header was image left.
    end_rest g.R.Disk _ (limits_of c.args.manager.now) (plan_of c.args.manager.now) (g.S.Starter.may_return c.args.starter.now) (past_of c.args.manager.now) (g.S.Starter.call_log c.args.starter.now) header _ _ _ image
    (subst (λ (l : List Record). is_lawful (plan_of c.args.manager.now) l ≡ true) (sym c.in-Ok-finish.ensures.past) (and_from _ _ (subst (λ (p : Plan). is_lawful p (past_of c.drive.new.manager) ≡ true) c.in-Ok.ensures.plan (subst (λ (p : Progress). is_lawful p.plan p.past ≡ true) c.core.ensures.lends c.keeps_the_law.ensures)) (subst (λ (p : Plan). may_follow p (past_of c.drive.new.manager) (Finish (exit_status (plan_of c.drive.new.manager) (past_of c.drive.new.manager))) ≡ true) c.in-Ok.ensures.plan (ends-now (limits_of c.args.manager.now) (plan_of c.args.manager.now) (plan_of c.drive.new.manager) c.in-Ok.ensures.plan (past_of c.drive.new.manager) c.in-Ok.end.verdict c.in-Ok.ensures.over c.in-Ok.ensures.ready))))
    (to-end (limits_of c.args.manager.now) (plan_of c.args.manager.now) (plan_of c.drive.new.manager) c.in-Ok.ensures.plan (g.S.Starter.may_return c.args.starter.now) (past_of c.args.manager.now) (past_of c.drive.new.manager) _ (g.S.Starter.call_log c.args.starter.now) (g.S.Starter.call_log c.drive.new.starter) c.in-Ok.end.verdict c.in-Ok.ensures.steps c.in-Ok.ensures.over c.in-Ok-finish.ensures.past)
    (subst (λ (p : Plan). IsRescued g.R.Disk p (past_of c.drive.new.manager) c.in-Ok-finish.rescue) c.in-Ok.ensures.plan (search rules))
    (at_ease g.D.Disk header c.finish.new.self image
    (c.in-Ok-finish.ensures.acknowledged (c.in-Ok.ensures.disk.keeps honest) header (c.in-Ok.ensures.acknowledged honest header was).reads) left)

pub returns-in-Err-run_text-clause-acknowledged : goal.returns-in-Err-run_text-clause-acknowledged
returns-in-Err-run_text-clause-acknowledged g c = inr (λ honest header was.
    c.in-Ok-finish.ensures.acknowledged (c.in-Ok.ensures.disk.keeps honest) header (c.in-Ok.ensures.acknowledged honest header was).reads)

pub returns-in-Err-finish-clause-disk : goal.returns-in-Err-finish-clause-disk
returns-in-Err-finish-clause-disk g c =
    keeps_on g.D.Disk c.args.manager.now c.drive.new.manager c.finish.new.self c.in-Ok.ensures.disk c.finish.ensures.keeps

pub returns-in-Ok-run_text-clause-disk : goal.returns-in-Ok-run_text-clause-disk
returns-in-Ok-run_text-clause-disk g c =
    keeps_on g.D.Disk c.args.manager.now c.drive.new.manager c.finish.new.self c.in-Ok.ensures.disk c.finish.ensures.keeps

pub returns-in-Err-run_text-clause-disk : goal.returns-in-Err-run_text-clause-disk
returns-in-Err-run_text-clause-disk g c =
    keeps_on g.D.Disk c.args.manager.now c.drive.new.manager c.finish.new.self c.in-Ok.ensures.disk c.finish.ensures.keeps

pub returns-in-Ok-run_text-clause-steps : goal.returns-in-Ok-run_text-clause-steps
returns-in-Ok-run_text-clause-steps g c =
    to-end (limits_of c.args.manager.now) (plan_of c.args.manager.now) (plan_of c.drive.new.manager) c.in-Ok.ensures.plan (g.S.Starter.may_return c.args.starter.now)
    (past_of c.args.manager.now) (past_of c.drive.new.manager) (past_of c.finish.new.self) (g.S.Starter.call_log c.args.starter.now) (g.S.Starter.call_log c.drive.new.starter)
    c.in-Ok.end.verdict c.in-Ok.ensures.steps c.in-Ok.ensures.over c.in-Ok-finish.ensures.past

pub returns-in-Err-clause-refused : goal.returns-in-Err-clause-refused
returns-in-Err-clause-refused g c = was_stopped c.in-Err.ensures.stopped refl

pub returns-in-Err-sealed-clause-refused : goal.returns-in-Err-sealed-clause-refused
returns-in-Err-sealed-clause-refused g c =
    not_sealed c.in-Err-sealed.rescue refl (record { status = c.in-Ok.end.verdict; steps = c.in-Ok.ensures.steps; chosen = c.in-Ok.ensures.over }) c.in-Err-sealed.ensures.refused.0 c.in-Err-sealed.ensures.refused.1
    (record {
      any_moment = c.in-Ok.ensures.any_moment;
      at_the_end = λ honest header was image left.
          steps_last (limits_of c.args.manager.now) (plan_of c.args.manager.now) (g.S.Starter.may_return c.args.starter.now) (past_of c.args.manager.now) (g.S.Starter.call_log c.args.starter.now) header _ _ image
          (subst (λ (p : Plan). is_lawful p (past_of c.drive.new.manager) ≡ true) c.in-Ok.ensures.plan (subst (λ (p : Progress). is_lawful p.plan p.past ≡ true) c.core.ensures.lends c.keeps_the_law.ensures)) c.in-Ok.ensures.steps
          (at_ease g.D.Disk header c.drive.new.manager image (c.in-Ok.ensures.acknowledged honest header was) left);
      acknowledged = c.in-Ok.ensures.acknowledged;
    })

pub returns-in-Err-finish-clause-refused : goal.returns-in-Err-finish-clause-refused
returns-in-Err-finish-clause-refused g c =
    let may_end_now = ends-now (limits_of c.args.manager.now) (plan_of c.args.manager.now) (plan_of c.drive.new.manager) c.in-Ok.ensures.plan (past_of c.drive.new.manager) c.in-Ok.end.verdict c.in-Ok.ensures.over c.in-Ok.ensures.ready in
    let why = end-refused g.D.Disk c.args.manager.now c.drive.new.manager c.finish.new.self c.in-Err-finish.fault
    c.in-Ok.ensures.disk c.in-Ok.ensures.counts c.in-Err-finish.ensures.plan c.in-Err-finish.ensures.past_err may_end_now
    (end-refusal g.D.Disk (plan_of c.drive.new.manager) (past_of c.drive.new.manager) _ c.drive.new.manager.journal c.finish.new.self.journal c.in-Err-finish.fault may_end_now c.in-Ok-sealed.ensures.sealed.count c.in-Err-finish.ensures.refused) in
    end_refused
    (subst (λ (l : List Record). IsAtEnd (limits_of c.args.manager.now) (plan_of c.args.manager.now) (g.S.Starter.may_return c.args.starter.now) (past_of c.args.manager.now) (g.S.Starter.call_log c.args.starter.now) l (g.S.Starter.call_log c.drive.new.starter)) (sym c.in-Err-finish.ensures.past_err)
    (record { status = c.in-Ok.end.verdict; steps = c.in-Ok.ensures.steps; chosen = c.in-Ok.ensures.over }))
    why (search rules)

pub returns-in-Err-run_text-clause-refused : goal.returns-in-Err-run_text-clause-refused
returns-in-Err-run_text-clause-refused g c =
    no_memory_for_report (to-end (limits_of c.args.manager.now) (plan_of c.args.manager.now) (plan_of c.drive.new.manager) c.in-Ok.ensures.plan (g.S.Starter.may_return c.args.starter.now) (past_of c.args.manager.now) (past_of c.drive.new.manager) _ (g.S.Starter.call_log c.args.starter.now) (g.S.Starter.call_log c.drive.new.starter) c.in-Ok.end.verdict c.in-Ok.ensures.steps c.in-Ok.ensures.over c.in-Ok-finish.ensures.past)
    (search rules)
