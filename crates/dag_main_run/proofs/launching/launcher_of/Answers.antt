use Rattle.dag_main_check.specs.declared.fault.RunFault.TheVariants.{Memory}
use Rattle.dag_main_files.proofs.RunFaults.{by-fault}
use Rattle.dag_main_run.specs.Launching.{IsLauncherFault, finding_had_no_memory}
use Rattle.dag_main_run.proofs.launching.launcher_of.Goals as goal

pub returns-in_err-program-clause-refused : goal.returns-in_err-program-clause-refused
returns-in_err-program-clause-refused g c =
    by-fault (IsLauncherFault c.args.options.now.launcher) Memory finding_had_no_memory c.from_residual.result c.from_residual.ensures.1

pub returns-in_err-from_place-clause-refused : goal.returns-in_err-from_place-clause-refused
returns-in_err-from_place-clause-refused g c =
    by-fault (IsLauncherFault c.args.options.now.launcher) Memory finding_had_no_memory
    c.from_residual-in_err-from_place.result c.from_residual-in_err-from_place.ensures.1
