use Rattle.std.proofs.Common.{◌++◌, ◌∙◌, ap, refl}
use Rattle.run_plan.specs.Plan.{Plan}
use Rattle.sched_core.specs.Core.{Progress}
use Rattle.recovery_manager.specs.Managed.{past_of}
use Rattle.dag_main_rehearse.specs.Report.{rescue_part}
use Rattle.dag_main_rehearse.proofs.RescueParts.{whole-report}
use Rattle.dag_main_check.proofs.Refusals.{handed-on}
use Rattle.dag_main_rehearse.specs.TooLong.{IsTableRunFault}
use Rattle.dag_main_check.specs.declared.fault.RunFault.TheVariants.{Memory}
use Rattle.dag_main_rehearse.proofs.TooLongRuns.{no-memory}
use Rattle.dag_main_rehearse.proofs.report.rehearse_plan.Goals as goal

pub returns-clause-run : goal.returns-clause-run
returns-clause-run c =
    let run = c.in_ok-run.run' in
    let past = past_of run.manager in
    let printed = c.as_str.result.now in
    record {
      past = past;
      run = c.in_ok-run.ensures.run;
      text_is = whole-report c.args.plan.now past run.status printed (rescue_part c.args.plan.now past) _ (c.as_str.ensures.value ∙ c.in_ok-run.ensures.text) refl
          (c.in_ok-with_rescue.ensures.ok ∙ ap (λ (p : Progress). printed ++ rescue_part p.plan p.past) c.core.ensures
          ∙ ap (λ (p : Plan). printed ++ rescue_part p past) c.in_ok-run.ensures.plan);
      status_is = c.in_ok-run.ensures.status;
    }

pub returns-in_err-with_rescue-clause-refused : goal.returns-in_err-with_rescue-clause-refused
returns-in_err-with_rescue-clause-refused c =
    handed-on (IsTableRunFault c.args.limits c.args.plan.now c.args.table.now) c.from_residual-in_err-with_rescue.result c.from_residual-in_err-with_rescue.ensures.1
    (λ fault same. no-memory c.args.limits c.args.plan.now c.args.table.now c.in_err-with_rescue.field-0.0 fault same c.in_err-with_rescue.ensures.err)

pub returns-in_err-warning_text-clause-refused : goal.returns-in_err-warning_text-clause-refused
returns-in_err-warning_text-clause-refused c =
    handed-on (IsTableRunFault c.args.limits c.args.plan.now c.args.table.now) c.from_residual-in_err-warning_text.result c.from_residual-in_err-warning_text.ensures.1
    (λ fault same. no-memory c.args.limits c.args.plan.now c.args.table.now Memory fault same refl)
