-- What is displayed of a round that is not salvaged.
use Rattle.std.specs.Prelude.{ℕ, List, ◌++◌, Option, Some, None, codes}
use Rattle.salvage.specs.declared.fault.SalvageFault.{SalvageFault}
use Rattle.salvage.specs.declared.fault.SalvageFault.TheVariants.{Refused, NoJournal, Ended, NoInputs, BadInputs, OtherRound, Changed, NotListed}

-- `CODE Name PATH`, of a cause that no other command has
abbrev pub fault_text : SalvageFault → Option (List ℕ)
fault_text (Refused fault) = None
fault_text (NoJournal path) = Some (codes "R1 NoJournal " ++ path)
fault_text (Ended path) = Some (codes "R2 Ended " ++ path)
fault_text (NoInputs path) = Some (codes "R3 NoInputs " ++ path)
fault_text (BadInputs path) = Some (codes "R4 BadInputs " ++ path)
fault_text (OtherRound path) = Some (codes "R5 OtherRound " ++ path)
fault_text (Changed path) = Some (codes "R6 Changed " ++ path)
fault_text (NotListed path) = Some (codes "R7 NotListed " ++ path)
