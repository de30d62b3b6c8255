use Rattle.dag_main_files.specs.Beside.{IsRefusalOf, refusing_had_no_memory}
use Rattle.dag_main_check.specs.declared.fault.RunFault.TheVariants.{Memory}
use Rattle.dag_main_files.proofs.RunFaults.{by-fault}
use Rattle.dag_main_files.proofs.beside.Place.sync_names.Goals as goal

pub returns-in_err-folder-clause-refused : goal.returns-in_err-folder-clause-refused
returns-in_err-folder-clause-refused g c = by-fault (IsRefusalOf c.args.path.now) Memory refusing_had_no_memory c.from_residual.result c.from_residual.ensures.1

pub returns-in_err-place-clause-refused : goal.returns-in_err-place-clause-refused
returns-in_err-place-clause-refused g c =
    by-fault (IsRefusalOf c.args.path.now) Memory refusing_had_no_memory c.from_residual-in_err-place.result c.from_residual-in_err-place.ensures.1
