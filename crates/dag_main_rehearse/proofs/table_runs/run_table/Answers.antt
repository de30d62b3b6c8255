use Rattle.std.proofs.Common.{◌∙◌}
use Rattle.recovery_manager.specs.Managed.{plan_of, past_of}
use Rattle.job_starter_drive.specs.Drives.{limits_of}
use Rattle.dag_main_rehearse.specs.TooLong.{IsTableRunFault}
use Rattle.dag_main_check.proofs.Refusals.{handed-on}
use Rattle.dag_main_rehearse.proofs.Rehearsals.{rehearsed}
use Rattle.dag_main_rehearse.proofs.TooLongRuns.{run_to_end-full, too-long-by, told-by, no-memory}
use Rattle.dag_main_rehearse.proofs.table_runs.run_table.Goals as goal

pub returns-in_err-manager-clause-refused : goal.returns-in_err-manager-clause-refused
returns-in_err-manager-clause-refused c =
    handed-on (IsTableRunFault c.args.limits c.args.plan.now c.args.table.now) c.from_residual.result c.from_residual.ensures.1
    (λ fault same. no-memory c.args.limits c.args.plan.now c.args.table.now c.in_err-manager.field-0.0 fault same c.in_err-manager.ensures.err)

pub returns-in-Ok-clause-run : goal.returns-in-Ok-clause-run
returns-in-Ok-clause-run c =
    rehearsed c.args.limits (limits_of c.in_ok-manager.manager) c.in_ok-manager.ensures.limits
    c.args.plan.now (plan_of c.in_ok-manager.manager) c.new-starter.result.plan.now c.in_ok-manager.ensures.plan c.new-starter.ensures.plan
    c.args.table.now c.new-starter.result.table.now c.new-starter.ensures.table
    c.new-starter.result.script.places.items (c.new-starter.ensures.places ∙ c.in_order.ensures)
    (past_of c.in_ok-manager.manager) c.in_ok-manager.ensures.past c.new-starter.result.log.calls c.new-starter.ensures.nothing
    (past_of c.run_to_end.new.manager) _ c.in-Ok.ensures.steps c.in-Ok.ensures.led.finished

pub returns-clause-refused : goal.returns-clause-refused
returns-clause-refused c =
    told-by c.args.limits c.args.plan.now c.args.table.now c.in-Err.fault c.told.result
    (λ full.
    too-long-by c.args.limits (limits_of c.in_ok-manager.manager) c.in_ok-manager.ensures.limits
    c.args.plan.now (plan_of c.in_ok-manager.manager) c.new-starter.result.plan.now c.in_ok-manager.ensures.plan c.new-starter.ensures.plan
    c.args.table.now c.new-starter.result.table.now c.new-starter.ensures.table
    c.new-starter.result.script.places.items (c.new-starter.ensures.places ∙ c.in_order.ensures)
    (past_of c.in_ok-manager.manager) c.in_ok-manager.ensures.past c.new-starter.result.log.calls c.new-starter.ensures.nothing
    (run_to_end-full _ _ _ _ _ c.in_ok-manager.manager c.run_to_end.new.manager _ _ _ _ c.in-Err.fault
    c.in_ok-manager.ensures.past c.in_ok-manager.ensures.slots c.in_ok-manager.ensures.count c.run_to_end.ensures.plan c.in-Err.ensures.refused full))
    c.told.ensures
