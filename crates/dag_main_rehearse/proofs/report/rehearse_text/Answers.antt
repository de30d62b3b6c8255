use Rattle.std.proofs.Common.{◌≡◌, string_bytes, sym, subst}
use Rattle.std.specs.Option.{option_map}
use Rattle.splices_flat.specs.FileSet.{bytes_of}
use Rattle.dag_main_rehearse.specs.Rehearsed.{IsRehearsalOf, IsRehearsalFault, has_no_graph, has_no_table}
use Rattle.dag_main_rehearse.specs.Refusals.{ReportsRun}
use Rattle.dag_main_check.specs.Warnings.{warning_lines}
use Rattle.dag_main_check.specs.declared.warnings.Answer.{Answer}
use Rattle.dag_main_rehearse.proofs.Reports.{rehearsal-of, answered, rehearsal-stopped}
use Rattle.dag_main_check.proofs.Refusals.{handed-on}
use Rattle.dag_main_rehearse.proofs.report.rehearse_text.Goals as goal

pub returns-clause-report : goal.returns-clause-report
returns-clause-report c =
    answered (λ (answer : Answer). ReportsRun c.args.limits c.in_ok-plan.plan c.in_ok-table.table (string_bytes answer.text) answer.status)
    (λ (answer : Answer). string_bytes answer.warnings ≡ warning_lines c.in_ok-plan.plan.graph.dag.warnings)
    (λ (answer : Answer). IsRehearsalOf c.args.always_post (bytes_of c.args.files.now) c.args.path.now (option_map (λ b. b.now) c.args.outcomes) c.args.limits (string_bytes answer.text) (string_bytes answer.warnings) answer.status)
    c.rehearse_plan.result
    (λ answer run notes. rehearsal-of c.args.always_post (bytes_of c.args.files.now) c.args.path.now _ c.args.limits c.in_ok-plan.plan c.in_ok-table.table c.in_ok-plan.ensures.plan c.in_ok-table.ensures.entries
    (string_bytes answer.text) (string_bytes answer.warnings) answer.status run notes)
    c.rehearse_plan.ensures.run c.rehearse_plan.ensures.warnings

pub returns-in_err-plan-clause-refused : goal.returns-in_err-plan-clause-refused
returns-in_err-plan-clause-refused c =
    let owed = IsRehearsalFault c.args.always_post (bytes_of c.args.files.now) c.args.path.now (option_map (λ b. b.now) c.args.outcomes) c.args.limits in
    handed-on owed c.from_residual.result c.from_residual.ensures.1
    (λ fault same. subst owed (sym same) (has_no_graph c.in_err-plan.field-0.0 c.in_err-plan.ensures.refused))

pub returns-in_err-table-clause-refused : goal.returns-in_err-table-clause-refused
returns-in_err-table-clause-refused c =
    let owed = IsRehearsalFault c.args.always_post (bytes_of c.args.files.now) c.args.path.now (option_map (λ b. b.now) c.args.outcomes) c.args.limits in
    handed-on owed c.from_residual-in_err-table.result c.from_residual-in_err-table.ensures.1
    (λ fault same. subst owed (sym same)
    (has_no_table c.in_ok-plan.plan.graph.dag c.in_err-table.field-0.0 c.in_ok-plan.ensures.plan.is_dag c.in_ok-plan.ensures.plan.acyclic c.in_err-table.ensures.refused))

pub returns-clause-refused : goal.returns-clause-refused
returns-clause-refused c =
    rehearsal-stopped c.args.always_post (bytes_of c.args.files.now) c.args.path.now (option_map (λ b. b.now) c.args.outcomes) c.args.limits c.in_ok-plan.plan c.in_ok-table.table c.rehearse_plan.result
    c.in_ok-plan.ensures.plan c.in_ok-table.ensures.entries c.rehearse_plan.ensures.refused
