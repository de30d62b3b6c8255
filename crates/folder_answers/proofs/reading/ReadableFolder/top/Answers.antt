use Rattle.dag_main_files.specs.Beside.{IsInputFault, input_had_no_memory}
use Rattle.dag_main_files.proofs.RunFaults.{by-fault}
use Rattle.std.proofs.Common.{sym, subst}
use Rattle.folder_answers.proofs.reading.ReadableFolder.top.Goals as goal

pub returns-in_err-readable_lines-clause-refused : goal.returns-in_err-readable_lines-clause-refused
returns-in_err-readable_lines-clause-refused g c =
    by-fault (IsInputFault c.args._path.now) c.in_err-readable_lines.field-0.0 (subst (IsInputFault c.args._path.now) (sym c.in_err-readable_lines.ensures) input_had_no_memory)
    c.from_residual.result c.from_residual.ensures.1
