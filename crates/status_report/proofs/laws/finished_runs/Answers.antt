use Rattle.status_report.proofs.Finished.{ordinary-status, final-status}
use Rattle.status_report.proofs.laws.finished_runs.Goals as goal

pub returns-clause-status : goal.returns-clause-status
returns-clause-status c plan past finished abort_free node lt = ordinary-status plan past finished abort_free node lt

pub returns-clause-final_node : goal.returns-clause-final_node
returns-clause-final_node c plan past finished some = final-status plan past finished some
