-- How a fault of a manager is displayed: its code, its name and the slot, or as the journal's fault that it is.
use Rattle.std.specs.Prelude.{ℕ, List, ◌++◌, codes}
use Rattle.std.specs.Fmt.{decimal}
use Rattle.event_journal_log.specs.Displayed.{journal_fault_text}
use Rattle.recovery_manager.specs.declared.fault.ManagerFault.{ManagerFault}
use Rattle.recovery_manager.specs.declared.fault.ManagerFault.TheVariants.{Journal, Foreign, NotLawful, Memory, AlreadyFinished}

abbrev pub manager_fault_text : ManagerFault → List ℕ
manager_fault_text (Journal fault) = journal_fault_text fault
manager_fault_text (Foreign slot) = codes "M2 Foreign " ++ decimal slot
manager_fault_text NotLawful = codes "M3 NotLawful"
manager_fault_text Memory = codes "M4 Memory"
manager_fault_text AlreadyFinished = codes "M5 AlreadyFinished"
