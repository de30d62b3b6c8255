use Rattle.std.proofs.Common.{sym, subst}
use Rattle.dag_main_files.specs.Beside.{IsRefusalOf, refusing_had_no_memory, IsRefusalHeld, refusing_unheld_had_no_memory}
use Rattle.dag_main_files.proofs.RunFaults.{by-fault}
use Rattle.dag_main_inspect.proofs.round.read_once.Goals as goal

pub returns-in_err-journal-clause-refused : goal.returns-in_err-journal-clause-refused
returns-in_err-journal-clause-refused g c =
    by-fault (IsRefusalOf c.args.path.now) c.in_err-journal.field-0.0
    (subst (IsRefusalOf c.args.path.now) (sym c.in_err-journal.ensures.err) refusing_had_no_memory)
    c.from_residual-in_err-journal.result c.from_residual-in_err-journal.ensures.1

pub returns-in_err-journal-clause-unheld : goal.returns-in_err-journal-clause-unheld
returns-in_err-journal-clause-unheld g c = λ honest.
    by-fault (IsRefusalHeld (g.F.Folder.holds c.args.folder.now) c.args.path.now) c.in_err-journal.field-0.0
    (subst (IsRefusalHeld (g.F.Folder.holds c.args.folder.now) c.args.path.now) (sym c.in_err-journal.ensures.err) refusing_unheld_had_no_memory)
    c.from_residual-in_err-journal.result c.from_residual-in_err-journal.ensures.1
