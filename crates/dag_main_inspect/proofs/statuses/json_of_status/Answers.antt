use Rattle.dag_main_inspect.specs.Statused.{IsRecordsFault}
use Rattle.dag_main_check.proofs.Refusals.{handed-on}
use Rattle.dag_main_inspect.proofs.StatusFaults.{owed-memory}
use Rattle.dag_main_inspect.proofs.statuses.json_of_status.Goals as goal

pub returns-in_err-status_json-clause-refused : goal.returns-in_err-status_json-clause-refused
returns-in_err-status_json-clause-refused c =
    handed-on (IsRecordsFault c.args.plan.now c.args.bytes.now) c.from_residual-in_err-status_json.result c.from_residual-in_err-status_json.ensures.1 (owed-memory c.args.plan.now c.args.bytes.now)
