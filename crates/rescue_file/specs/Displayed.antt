-- The codes and names of the faults of a rescue file, with the number that there is no file of. Its path, and the line, are
-- added by who knows the path.
use Rattle.std.specs.Prelude.{ℕ, List, ◌++◌, codes}
use Rattle.std.specs.Fmt.{decimal}
use Rattle.rescue_file.specs.declared.fault.RescueFault.{RescueFault}
use Rattle.rescue_file.specs.declared.fault.RescueFault.TheVariants.{BadLine, UnknownNode, FinalDone, NotThere, Memory}

abbrev pub rescue_fault_name : RescueFault → List ℕ
rescue_fault_name (BadLine line) = codes "E1 BadLine"
rescue_fault_name (UnknownNode line) = codes "E2 UnknownNode"
rescue_fault_name (FinalDone line) = codes "E3 FinalDone"
rescue_fault_name (NotThere number) = codes "E4 NotThere " ++ decimal number
rescue_fault_name Memory = codes "E5 Memory"
