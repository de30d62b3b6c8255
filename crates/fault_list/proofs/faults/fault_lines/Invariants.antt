use Rattle.std.proofs.Common.{◌≡◌, take, string_bytes}
use Rattle.fault_list.specs.LineFaults.{fault_lines}
use Rattle.fault_list.proofs.faults.fault_lines.Given as goal

abbrev pub invariant-loop-fault : goal.invariant-loop-fault
invariant-loop-fault l = string_bytes l.text ≡ fault_lines (take l.fault-index l.faults)
