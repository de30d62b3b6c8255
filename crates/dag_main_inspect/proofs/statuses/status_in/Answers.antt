use Rattle.dag_main_check.proofs.Refusals.{handed-on}
use Rattle.dag_main_inspect.specs.Statused.{journal_bytes}
use Rattle.dag_main_inspect.specs.Asked.{TellsOfNoRun}
use Rattle.dag_main_inspect.proofs.StatusFaults.{owed-memory}
use Rattle.dag_main_inspect.proofs.statuses.status_in.Goals as goal

pub returns-in_err-text_in-clause-refused : goal.returns-in_err-text_in-clause-refused
returns-in_err-text_in-clause-refused c =
    handed-on (TellsOfNoRun c.args.round.now.plan c.args.round.now.journal) c.from_residual-in_err-text_in.result c.from_residual-in_err-text_in.ensures.1
    (owed-memory c.args.round.now.plan (journal_bytes c.args.round.now.journal))

pub returns-in_err-warning_text-clause-refused : goal.returns-in_err-warning_text-clause-refused
returns-in_err-warning_text-clause-refused c =
    handed-on (TellsOfNoRun c.args.round.now.plan c.args.round.now.journal) c.from_residual-in_err-warning_text.result c.from_residual-in_err-warning_text.ensures.1
    (owed-memory c.args.round.now.plan (journal_bytes c.args.round.now.journal))
