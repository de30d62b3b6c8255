use Rattle.dag_main_files.specs.Beside.{folder_name_of, IsRefusalOf, refusing_had_no_memory}
use Rattle.dag_main_check.specs.declared.fault.RunFault.TheVariants.{Memory}
use Rattle.dag_main_files.proofs.RunFaults.{by-fault}
use Rattle.dag_main_files.proofs.beside.Place.names.Goals as goal

pub returns-in_err-place : goal.returns-in_err-place
returns-in_err-place g c =
    by-fault (IsRefusalOf (folder_name_of c.args.self.now.top.now)) Memory refusing_had_no_memory c.from_residual.result c.from_residual.ensures.1
