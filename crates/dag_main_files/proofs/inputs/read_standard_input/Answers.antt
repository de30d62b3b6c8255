use Rattle.std.proofs.Common.{refl, rules, codes}
use Rattle.dag_main_files.specs.Beside.{IsInputFault, input_refused, input_had_no_memory}
use Rattle.dag_main_check.specs.declared.fault.RunFault.TheVariants.{Memory}
use Rattle.dag_main_files.proofs.RunFaults.{by-fault}
use Rattle.dag_main_files.proofs.inputs.read_standard_input.Goals as goal

pub returns-in-Err : goal.returns-in-Err
returns-in-Err g c = input_had_no_memory

pub returns-in_err-from_str-in-Err-2 : goal.returns-in_err-from_str-in-Err-2
returns-in_err-from_str-in-Err-2 g c = by-fault (IsInputFault (codes "-")) Memory input_had_no_memory c.from_residual.result c.from_residual.ensures.1

pub returns-in_ok-from_str-in-Err-2 : goal.returns-in_ok-from_str-in-Err-2
returns-in_ok-from_str-in-Err-2 g c = input_refused c.in_ok-from_str-in-Err-2.field-0 refl (search rules)
