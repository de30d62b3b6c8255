use Rattle.std.proofs.Common.{◌∙◌}
use Rattle.dag_main_check.proofs.Refusals.{handed-on}
use Rattle.dag_main_inspect.specs.Statused.{journal_bytes}
use Rattle.dag_main_inspect.specs.Asked.{TellsOfNoRun}
use Rattle.dag_main_inspect.proofs.StatusFaults.{owed-memory}
use Rattle.dag_main_inspect.proofs.reports.report_in.Goals as goal

pub returns-in_err-report-clause-refused : goal.returns-in_err-report-clause-refused
returns-in_err-report-clause-refused c =
    handed-on (TellsOfNoRun c.args.round.now.plan c.args.round.now.journal) c.from_residual-in_err-report.result c.from_residual-in_err-report.ensures.1
    (λ fault same. owed-memory c.args.round.now.plan (journal_bytes c.args.round.now.journal) fault (same ∙ c.in_err-report.ensures.refused))
