use Rattle.dag_main_files.specs.Beside.{IsRefusalOf}
use Rattle.dag_main_files.proofs.RunFaults.{by-fault}
use Rattle.dag_main_files.proofs.folder.SystemFolderFolder.beside.Goals as goal

pub returns-in_err-goes_by-clause-named : goal.returns-in_err-goes_by-clause-named
returns-in_err-goes_by-clause-named g c =
    by-fault (IsRefusalOf c.args.path.now) c.in_err-goes_by.field-0.0 c.in_err-goes_by.ensures.named c.from_residual.result c.from_residual.ensures.1
