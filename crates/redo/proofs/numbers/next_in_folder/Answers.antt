use Rattle.dag_main_files.specs.Beside.{folder_name_of, IsRefusalOf}
use Rattle.dag_main_files.proofs.RunFaults.{by-fault}
use Rattle.redo.proofs.numbers.next_in_folder.Goals as goal

pub returns-in_err-highest-clause-refused : goal.returns-in_err-highest-clause-refused
returns-in_err-highest-clause-refused g c =
    by-fault (IsRefusalOf (folder_name_of c.args.top.now)) c.in_err-highest.field-0.0 c.in_err-highest.ensures.refused c.from_residual.result c.from_residual.ensures.1
