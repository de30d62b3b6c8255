use Rattle.dag_main_check.specs.declared.fault.RunFault.TheVariants.{Memory}
use Rattle.dag_main_files.specs.Beside.{IsRefusalOf, refusing_had_no_memory}
use Rattle.dag_main_files.proofs.RunFaults.{by-fault}
use Rattle.dag_main_run.proofs.status_file.paths_of.Goals as goal

pub returns-in_err-file : goal.returns-in_err-file
returns-in_err-file g c = by-fault (IsRefusalOf c.args.name.now) Memory refusing_had_no_memory c.from_residual.result c.from_residual.ensures.1

pub returns-in_err-draft : goal.returns-in_err-draft
returns-in_err-draft g c = by-fault (IsRefusalOf c.args.name.now) Memory refusing_had_no_memory c.from_residual-in_err-draft.result c.from_residual-in_err-draft.ensures.1

pub returns-in_err-dag : goal.returns-in_err-dag
returns-in_err-dag g c = by-fault (IsRefusalOf c.args.name.now) Memory refusing_had_no_memory c.from_residual-in_err-dag.result c.from_residual-in_err-dag.ensures.1
