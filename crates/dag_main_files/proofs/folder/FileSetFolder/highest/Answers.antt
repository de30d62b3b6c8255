use Rattle.std.proofs.Common.{sym, subst}
use Rattle.dag_main_files.specs.Beside.{folder_name_of, IsRefusalOf, refusing_had_no_memory}
use Rattle.dag_main_files.proofs.RunFaults.{by-fault}
use Rattle.dag_main_files.proofs.folder.FileSetFolder.highest.Goals as goal

pub returns-in_err-path-clause-refused : goal.returns-in_err-path-clause-refused
returns-in_err-path-clause-refused c =
    by-fault (IsRefusalOf (folder_name_of c.args.top.now)) c.in_err-path.field-0.0
    (subst (IsRefusalOf (folder_name_of c.args.top.now)) (sym c.in_err-path.ensures.err) refusing_had_no_memory) c.from_residual.result c.from_residual.ensures.1
