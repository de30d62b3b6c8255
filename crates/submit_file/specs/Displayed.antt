-- The codes and names of the faults of a submit file. Its path, and the line, are added by whoever knows the path.
use Rattle.std.specs.Prelude.{ℕ, List, codes}
use Rattle.submit_file.specs.declared.fault.LineFault.{LineFault}
use Rattle.submit_file.specs.declared.fault.LineFault.TheVariants.{BadLine, QueueCount, Unsupported}
use Rattle.submit_file.specs.declared.fault.SubmitFault.{SubmitFault}
use Rattle.submit_file.specs.declared.fault.SubmitFault.TheVariants.{NotText, NoQueue, InLine, Memory}

abbrev pub submit_line_fault_name : LineFault → List ℕ
submit_line_fault_name BadLine = codes "U2 BadLine"
submit_line_fault_name QueueCount = codes "U4 QueueCount"
submit_line_fault_name Unsupported = codes "U5 Unsupported"

abbrev pub submit_fault_name : SubmitFault → List ℕ
submit_fault_name NotText = codes "U1 NotText"
submit_fault_name NoQueue = codes "U3 NoQueue"
submit_fault_name (InLine line fault) = submit_line_fault_name fault
submit_fault_name Memory = codes "U6 Memory"
