-- Why a status is refused, and what it says.
use Rattle.std.proofs.Common.{◌≡◌, ℕ, List, [], ◌∷◌, Option, Some, None, Ok, Err, unwrap_or, Bool, true, ◌∙◌, refl, sym, ap, subst}
use Rattle.std.specs.Prelude.{slice_get}
use Rattle.run_plan.specs.Plan.{Plan}
use Rattle.node_machine.specs.declared.Record.{Record}
use Rattle.sched_core.specs.Core.{Progress}
use Rattle.sched_core.specs.Run.{chronological, is_lawful}
use Rattle.event_journal_log.specs.declared.fault.JournalFault.{JournalFault}
use Rattle.event_journal_log.specs.declared.fault.JournalFault.TheVariants as journal
use Rattle.event_journal_log.specs.Groups.{IsSlotAt}
use Rattle.event_journal_log.specs.Image.{Found, groups_in}
use Rattle.event_journal_log.specs.Journal.{Replay}
use Rattle.event_journal_log.specs.Reading.{FailsAs, ReadsRecords, replay_for}
use Rattle.recovery.specs.Replay.{IsReplayFault, IsFirstForeign}
use Rattle.recovery.proofs.Slots.{first_at, foreign_in}
use Rattle.recovery_manager.specs.declared.fault.ManagerFault.TheVariants as manager
use Rattle.recovery_manager.specs.Inputs.{replay_by}
use Rattle.dag_main_check.specs.declared.fault.RunFault.{RunFault}
use Rattle.dag_main_check.specs.declared.fault.RunFault.TheVariants.{InManager, Memory}
use Rattle.dag_main_inspect.specs.Statused.{records_read, records_in_bytes, bytes_fault, IsStatusBy, IsRecordsFault, no_journal, foreign_record, reading_had_no_memory}

-- the records of a journal
pub owed-memory : (plan : Plan) (bytes : List ℕ) (fault : RunFault) → fault ≡ Memory → IsRecordsFault plan bytes fault
owed-memory plan bytes fault is = subst (IsRecordsFault plan bytes) (sym is) reading_had_no_memory

pub read-fault : (plan : Plan) (bytes : List ℕ) (fault : JournalFault) → FailsAs fault (replay_by plan bytes) → IsRecordsFault plan bytes (bytes_fault fault)
read-fault plan bytes journal.Memory is = reading_had_no_memory
read-fault plan bytes journal.Device is = absurd is
read-fault plan bytes journal.DiskFull is = absurd is
read-fault plan bytes journal.NotAJournal is = no_journal journal.NotAJournal is
read-fault plan bytes (journal.Version v) is = no_journal (journal.Version v) is
read-fault plan bytes journal.OtherInputs is = no_journal journal.OtherInputs is
read-fault plan bytes journal.OtherFlag is = no_journal journal.OtherFlag is
read-fault plan bytes journal.SlotsFull is = absurd is
read-fault plan bytes journal.Broken is = absurd is
read-fault plan bytes (journal.BadSlot slot) is = no_journal (journal.BadSlot slot) is

pub no-records : (plan : Plan) (bytes : List ℕ) (fault : JournalFault) → replay_by plan bytes ≡ Err fault → IsRecordsFault plan bytes (bytes_fault fault)
no-records plan bytes journal.Memory is = reading_had_no_memory
no-records plan bytes journal.Device is = no_journal journal.Device is
no-records plan bytes journal.DiskFull is = no_journal journal.DiskFull is
no-records plan bytes journal.NotAJournal is = no_journal journal.NotAJournal is
no-records plan bytes (journal.Version v) is = no_journal (journal.Version v) is
no-records plan bytes journal.OtherInputs is = no_journal journal.OtherInputs is
no-records plan bytes journal.OtherFlag is = no_journal journal.OtherFlag is
no-records plan bytes journal.SlotsFull is = no_journal journal.SlotsFull is
no-records plan bytes journal.Broken is = no_journal journal.Broken is
no-records plan bytes (journal.BadSlot slot) is = no_journal (journal.BadSlot slot) is

-- the records that were read
records-read : (plan : Plan) (bytes : List ℕ) (read : Option (List Record)) → ReadsRecords read (replay_by plan bytes)
    → records_in_bytes plan bytes ≡ Some (unwrap_or read [])
records-read plan bytes None is = ap records_read is
records-read plan bytes (Some records) (found, is, same) = ap records_read is ∙ ap (λ (rs : List Record). Some rs) (sym same)

pub read-records : (plan : Plan) (bytes : List ℕ) (o read : Option (List Record)) (digest : List ℕ) → digest ≡ plan.digest → (flag : Bool) → flag ≡ plan.always_post
    → ReadsRecords o (replay_for digest flag bytes) → o ≡ read → records_in_bytes plan bytes ≡ Some (unwrap_or read [])
read-records plan bytes o read digest same flag same_flag reads is =
    records-read plan bytes read
    (subst (λ (x : Option (List Record)). ReadsRecords x (replay_by plan bytes)) is
    (subst (λ (r : Replay). ReadsRecords o r) (λ j. replay_for (same j) (same_flag j) bytes) reads))

-- what reads as records that are not none
found-at : (read : Replay) (records : List Record) (place : ℕ) (entry : Record) → records_read read ≡ Some records → slice_get records place ≡ Some entry
    → (found : Found) × (read ≡ Ok (Some found)) × (records ≡ found.records)
found-at (Ok None) records place entry is at = absurd (none-at records place entry is at)
  where
    none-at : (records : List Record) (place : ℕ) (entry : Record) → records_read (Ok None) ≡ Some records → slice_get records place ≡ Some entry → ⊥
    none-at [] place entry is at = absurd cc
    none-at (first ∷ rest) place entry is at = absurd cc
found-at (Ok (Some found)) records place entry is at = (found, refl, cc)
found-at (Err fault) records place entry is at = absurd cc

-- the slot of the first record that may not follow
pub foreign-fault : (plan : Plan) (bytes : List ℕ) (records : List Record) (place slot : ℕ) → records_in_bytes plan bytes ≡ Some records
    → IsReplayFault plan records (manager.Foreign place) → IsSlotAt (groups_in bytes) place slot → IsRecordsFault plan bytes (InManager (manager.Foreign slot))
foreign-fault plan bytes records place slot is why at =
    let first = first_at plan records place why in
    let f = found-at (replay_by plan bytes) records place first.entry is first.is in
    foreign_record slot (foreign_in plan bytes f.0 place slot f.1 (subst (λ (l : List Record). IsFirstForeign plan l place) f.2 first) at)

-- the text that is made of a core of these records
pub status-by : (text_of : Plan → List Record → List ℕ) (plan : Plan) (bytes : List ℕ) (records : List Record) (core : Progress) → records_in_bytes plan bytes ≡ Some records
    → core.plan ≡ plan → records ≡ chronological core.past → is_lawful core.plan core.past ≡ true → (text : List ℕ) → text ≡ text_of core.plan core.past
    → IsStatusBy text_of plan bytes text 0
status-by text_of plan bytes records core are p r lawful text is = record {
  past = core.past;
  are_records = are ∙ ap (λ (rs : List Record). Some rs) r;
  lawful = subst (λ (q : Plan). is_lawful q core.past ≡ true) p lawful;
  text_is = is ∙ (λ j. text_of (p j) core.past);
  status_is = refl;
}
