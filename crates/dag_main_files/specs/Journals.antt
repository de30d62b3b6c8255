-- What is returned for a journal that can't be read.
use Rattle.std.specs.Prelude.{◌≡◌, ℕ, List, Err}
use Rattle.event_journal_log.specs.declared.fault.JournalFault.{JournalFault}
use Rattle.event_journal_log.specs.declared.fault.JournalFault.TheVariants as journals
use Rattle.event_journal_log.specs.Image.{replay_of}
use Rattle.recovery_manager.specs.declared.fault.ManagerFault.TheVariants as manager
use Rattle.dag_main_check.specs.declared.fault.RunFault.{RunFault}
use Rattle.dag_main_check.specs.declared.fault.RunFault.TheVariants.{InManager, Memory}

-- what is returned for the fault of a journal
abbrev pub read_fault : JournalFault → RunFault
read_fault journals.Memory = Memory
read_fault fault = InManager (manager.Journal fault)

-- a journal of these bytes can't be read, or memory ran out
pub data IsUnread (journal : List ℕ) : RunFault → Type 0 where
  bad_journal : (fault : JournalFault) → replay_of journal ≡ Err fault → IsUnread journal (InManager (manager.Journal fault))
  reading_had_no_memory : IsUnread journal Memory
