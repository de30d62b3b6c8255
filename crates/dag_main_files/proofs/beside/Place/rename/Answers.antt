use Rattle.dag_main_files.specs.Beside.{IsRefusalOf, refusing_had_no_memory}
use Rattle.dag_main_check.specs.declared.fault.RunFault.TheVariants.{Memory}
use Rattle.dag_main_files.proofs.RunFaults.{by-fault}
use Rattle.dag_main_files.proofs.beside.Place.rename.Goals as goal

pub returns-in_err-from-clause-refused : goal.returns-in_err-from-clause-refused
returns-in_err-from-clause-refused g c = by-fault (IsRefusalOf c.args.path.now) Memory refusing_had_no_memory c.from_residual.result c.from_residual.ensures.1

pub returns-in_err-to-clause-refused : goal.returns-in_err-to-clause-refused
returns-in_err-to-clause-refused g c = by-fault (IsRefusalOf c.args.path.now) Memory refusing_had_no_memory c.from_residual-in_err-to.result c.from_residual-in_err-to.ensures.1
