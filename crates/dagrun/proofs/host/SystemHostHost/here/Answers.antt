use Rattle.dag_main_check.specs.declared.fault.RunFault.TheVariants.{Memory}
use Rattle.dag_main_files.proofs.RunFaults.{by-fault}
use Rattle.dagrun.specs.Answered.{IsFolderFault, folder_had_no_memory}
use Rattle.dagrun.proofs.Worlds.{folder-fault}
use Rattle.dagrun.proofs.host.SystemHostHost.here.Goals as goal

pub returns-in_err-from_str-in-Ok-clause-refused : goal.returns-in_err-from_str-in-Ok-clause-refused
returns-in_err-from_str-in-Ok-clause-refused g c = by-fault (IsFolderFault _) Memory folder_had_no_memory c.from_residual.result c.from_residual.ensures.1

pub returns-in-Err-clause-refused : goal.returns-in-Err-clause-refused
returns-in-Err-clause-refused g c = folder-fault _ tt c.refused.result c.refused.ensures.path
