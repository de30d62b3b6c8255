use Rattle.dag_main_files.specs.Beside.{IsRefusalOf, path_refused, refusing_had_no_memory}
use Rattle.dag_main_check.specs.declared.fault.RunFault.TheVariants.{Memory}
use Rattle.dag_main_files.proofs.RunFaults.{by-fault}
use Rattle.dag_main_files.proofs.beside.Place.trusts.Goals as goal

pub returns-in_err-folder : goal.returns-in_err-folder
returns-in_err-folder g c = record { named = by-fault (IsRefusalOf c.args.path.now) Memory refusing_had_no_memory c.from_residual.result c.from_residual.ensures.1 }

pub returns-in_err-place : goal.returns-in_err-place
returns-in_err-place g c = record { named = by-fault (IsRefusalOf c.args.path.now) Memory refusing_had_no_memory c.from_residual-in_err-place.result c.from_residual-in_err-place.ensures.1 }

pub returns-in-Ok : goal.returns-in-Ok
returns-in-Ok g c = record { named = path_refused c.in-Ok.path c.in-Ok.ensures.ok }

pub returns : goal.returns
returns g c = record { named = refusing_had_no_memory }
