use Rattle.dag_main_files.specs.Beside.{IsInputFault, input_had_no_memory}
use Rattle.dag_main_files.proofs.RunFaults.{memory-alone}
use Rattle.round_inputs.proofs.as_begun.AsBegunFolder.top.Goals as goal

pub returns-in-Some-clause-refused : goal.returns-in-Some-clause-refused
returns-in-Some-clause-refused g c = memory-alone (IsInputFault c.args.path.now) input_had_no_memory c.copied.result c.copied.ensures.refused
