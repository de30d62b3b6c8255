use Rattle.dag_main_rehearse.proofs.OneReport.{abort_free-report}
use Rattle.dag_main_rehearse.proofs.laws.calm_reports.Goals as goal

pub returns : goal.returns
returns c = abort_free-report
