use Rattle.dag_main_files.specs.Beside.{IsInputFault, input_had_no_memory}
use Rattle.dag_main_files.proofs.RunFaults.{memory-alone}
use Rattle.dag_main_files.proofs.loading.files_of.Goals as goal

pub returns-clause-refused : goal.returns-clause-refused
returns-clause-refused g c = memory-alone (IsInputFault c.args.top.now) input_had_no_memory c.files_from.result c.files_from.ensures.err
