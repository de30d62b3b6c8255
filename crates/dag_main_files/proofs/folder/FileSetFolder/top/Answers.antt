use Rattle.dag_main_files.specs.Beside.{IsInputFault, input_had_no_memory}
use Rattle.dag_main_files.proofs.RunFaults.{memory-alone}
use Rattle.dag_main_files.proofs.folder.FileSetFolder.top.Goals as goal

pub returns-clause-refused : goal.returns-clause-refused
returns-clause-refused c = memory-alone (IsInputFault c.args.path.now) input_had_no_memory c.copied.result c.copied.ensures.refused
