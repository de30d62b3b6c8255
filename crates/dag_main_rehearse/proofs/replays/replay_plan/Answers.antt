use Rattle.std.proofs.Common.{◌∙◌, List, ap, refl}
use Rattle.run_plan.specs.Plan.{Plan}
use Rattle.sched_core.specs.Run.{is_aborted}
use Rattle.recovery_manager.specs.Managed.{plan_of, past_of}
use Rattle.job_starter_drive.specs.declared.Call.{Call}
use Rattle.job_starter_drive.specs.Drives.{limits_of}
use Rattle.dag_main_check.proofs.Refusals.{handed-on}
use Rattle.dag_main_check.specs.declared.fault.RunFault.TheVariants.{Memory}
use Rattle.dag_main_rehearse.specs.Timed.{timings_of, moment_after}
use Rattle.dag_main_rehearse.specs.Replay.{IsNoReplay}
use Rattle.dag_main_rehearse.proofs.Replayed.{steps-by, refused-by, no-memory}
use Rattle.dag_main_rehearse.proofs.TooLongRuns.{run_to_end-full, timed-too-long-by}
use Rattle.dag_main_rehearse.proofs.replays.replay_plan.Goals as goal

pub returns-in_err-manager-clause-refused : goal.returns-in_err-manager-clause-refused
returns-in_err-manager-clause-refused c =
    handed-on (IsNoReplay c.args.limits c.args.plan.now (timings_of c.args.timetable.now)) c.from_residual.result c.from_residual.ensures.1
    (λ fault same. no-memory c.args.limits c.args.plan.now (timings_of c.args.timetable.now) c.in_err-manager.field-0.0 fault same c.in_err-manager.ensures.err)

pub returns-in_err-time-in-Ok-clause-refused : goal.returns-in_err-time-in-Ok-clause-refused
returns-in_err-time-in-Ok-clause-refused c =
    handed-on (IsNoReplay c.args.limits c.args.plan.now (timings_of c.args.timetable.now)) c.from_residual-in_err-time-in-Ok.result c.from_residual-in_err-time-in-Ok.ensures.1
    (λ fault same. no-memory c.args.limits c.args.plan.now (timings_of c.args.timetable.now) Memory fault same refl)

pub returns-in-Ok-clause-replayed : goal.returns-in-Ok-clause-replayed
returns-in-Ok-clause-replayed c = record {
  past = past_of c.run_to_end.new.manager;
  calls = c.run_to_end.new.starter.log.calls;
  steps =
      steps-by c.args.limits (limits_of c.in_ok-manager.manager) c.in_ok-manager.ensures.limits c.args.plan.now (plan_of c.in_ok-manager.manager) c.in_ok-manager.ensures.plan
      (timings_of c.args.timetable.now) (timings_of c.new-starter.result.timetable.now) (ap timings_of c.new-starter.ensures.timetable)
      (past_of c.in_ok-manager.manager) c.in_ok-manager.ensures.past c.new-starter.result.log.calls c.new-starter.ensures.nothing
      (past_of c.run_to_end.new.manager) c.run_to_end.new.starter.log.calls c.in-Ok.ensures.steps;
  time_is = c.in_ok-time-in-Ok.ensures ∙ ap (λ (calls : List Call). (moment_after (timings_of c.args.timetable.now) calls).clock) c.calls.ensures;
  aborted_is =
      c.aborted.ensures ∙ (λ j. is_aborted (c.core.ensures.lends j).plan (c.core.ensures.lends j).past)
      ∙ ap (λ (plan : Plan). is_aborted plan (past_of c.run_to_end.new.manager)) (c.run_to_end.ensures.plan ∙ c.in_ok-manager.ensures.plan);
}

pub returns-clause-refused : goal.returns-clause-refused
returns-clause-refused c =
    refused-by c.args.limits c.args.plan.now (timings_of c.args.timetable.now) c.in-Err.fault c.told.result
    (λ full.
    timed-too-long-by c.args.limits (limits_of c.in_ok-manager.manager) c.in_ok-manager.ensures.limits
    c.args.plan.now (plan_of c.in_ok-manager.manager) c.in_ok-manager.ensures.plan
    (timings_of c.args.timetable.now) (timings_of c.new-starter.result.timetable.now) (ap timings_of c.new-starter.ensures.timetable)
    (past_of c.in_ok-manager.manager) c.in_ok-manager.ensures.past c.new-starter.result.log.calls c.new-starter.ensures.nothing
    (run_to_end-full _ _ _ _ _ c.in_ok-manager.manager c.run_to_end.new.manager _ _ _ _ c.in-Err.fault
    c.in_ok-manager.ensures.past c.in_ok-manager.ensures.slots c.in_ok-manager.ensures.count c.run_to_end.ensures.plan c.in-Err.ensures.refused full))
    c.told.ensures
