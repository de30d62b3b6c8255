use Rattle.dag_main_files.specs.Beside.{IsRefusalOf, refusing_had_no_memory}
use Rattle.dag_main_check.specs.declared.fault.RunFault.TheVariants.{Memory}
use Rattle.dag_main_files.proofs.RunFaults.{by-fault}
use Rattle.dag_main_files.proofs.beside.Place.is_regular.Goals as goal

pub returns-in_err-place : goal.returns-in_err-place
returns-in_err-place g c = record { named = by-fault (IsRefusalOf c.args.path.now) Memory refusing_had_no_memory c.from_residual.result c.from_residual.ensures.1 }
