-- The line that a user reads after `dagrun: ` where a command is refused: `CODE Name detail`.
use Rattle.std.specs.Prelude.{ℕ, List, ◌++◌, Option, Some, None, codes, string_bytes}
use Rattle.std.specs.Fmt.{decimal}
use Rattle.dag_reader.specs.Fault.{texts_text}
use Rattle.splices_flat.specs.Displayed.{dag_fault_text}
use Rattle.node_machine.specs.Displayed.{table_fault_text}
use Rattle.rescue_file.specs.declared.fault.RescueFault.{RescueFault}
use Rattle.rescue_file.specs.declared.fault.RescueFault.TheVariants as rescue
use Rattle.rescue_file.specs.Displayed.{rescue_fault_name}
use Rattle.run_plan.specs.Displayed.{plan_fault_text}
use Rattle.recovery_manager.specs.Displayed.{manager_fault_text}
use Rattle.dag_main_check.specs.declared.fault.RunFault.{RunFault}
use Rattle.dag_main_check.specs.declared.fault.RunFault.TheVariants.{InFiles, Cycle, InPlan, InTable, InRescue, NotThere, Unfinished, InManager, StartMemory, WaitFault, Halted, FileRefused, Memory}

-- the line of a rescue file that a fault tells of
abbrev pub line_in : RescueFault → Option ℕ
line_in (rescue.BadLine line) = Some line
line_in (rescue.UnknownNode line) = Some line
line_in (rescue.FinalDone line) = Some line
line_in (rescue.NotThere number) = None
line_in rescue.Memory = None

-- a fault's name, and `FILE:LINE` after it where it is one of a line
abbrev pub at_line : List ℕ → List ℕ → Option ℕ → List ℕ
at_line name path None = name
at_line name path (Some line) = name ++ codes " " ++ path ++ codes ":" ++ decimal line

abbrev pub run_fault_text : RunFault → List ℕ
run_fault_text (InFiles fault) = dag_fault_text fault
run_fault_text (Cycle names) = codes "G1 Cycle" ++ texts_text names
run_fault_text (InPlan fault) = plan_fault_text fault
run_fault_text (InTable fault) = table_fault_text fault
run_fault_text (InRescue path fault) = at_line (rescue_fault_name fault) path (line_in fault)
run_fault_text (NotThere number) = codes "E4 NotThere " ++ decimal number
run_fault_text Unfinished = codes "E6 Unfinished"
run_fault_text (InManager fault) = manager_fault_text fault
run_fault_text StartMemory = codes "A1 StartMemory"
run_fault_text WaitFault = codes "A2 WaitFault"
run_fault_text (Halted asked) = codes "H1 Halted " ++ asked
run_fault_text (FileRefused path) = codes "X2 FileRefused " ++ string_bytes path
run_fault_text Memory = codes "X1 Memory"
