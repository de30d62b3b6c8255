-- The codes and names of the faults of an expansion. The node is added by whoever knows it.
use Rattle.std.specs.Prelude.{ℕ, List, codes}
use Rattle.vars_macros.specs.declared.fault.MacroFault.{MacroFault}
use Rattle.vars_macros.specs.declared.fault.MacroFault.TheVariants.{Unclosed, Loop, TooLong, BadQuote, BadReference, Memory}

abbrev pub macro_fault_name : MacroFault → List ℕ
macro_fault_name Unclosed = codes "V1 Unclosed"
macro_fault_name Loop = codes "V2 Loop"
macro_fault_name TooLong = codes "V3 TooLong"
macro_fault_name BadQuote = codes "V4 BadQuote"
macro_fault_name BadReference = codes "V5 BadReference"
macro_fault_name Memory = codes "V6 Memory"
