-- What an audit answers.
use Rattle.std.specs.Prelude.{◌≡◌, ℕ, List, ◌++◌, Option, Some, None, Result, Ok, Err, codes, IsTrue, IsFalse}
use Rattle.std.specs.Fmt.{decimal}
use Rattle.run_plan.specs.Plan.{Plan}
use Rattle.node_machine.specs.declared.Record.{Record}
use Rattle.sched_core.specs.Run.{table_of, is_lawful, is_over, is_finished, is_aborted}
use Rattle.sched_core.specs.Fate.{Fate}
use Rattle.event_journal_log.specs.declared.fault.JournalFault.{JournalFault}
use Rattle.event_journal_log.specs.declared.fault.JournalFault.TheVariants as journal
use Rattle.event_journal_log.specs.Image.{Header, Found, groups_in}
use Rattle.recovery_manager.specs.Managed.{read_of}
use Rattle.recovery_manager.specs.Inputs.{replay_by}
use Rattle.recovery.specs.Replay.{IsForeignSlot}
use Rattle.fate_audit.specs.Fates.{AreFatesOf}
use Rattle.fate_audit.specs.declared.fault.AuditNo.{AuditNo}
use Rattle.fate_audit.specs.declared.fault.AuditNo.TheVariants.{NotAJournal, NotARun, Unfinished, Memory, Aborted}

-- reading gives no records: a place where no journal was begun, or any fault
abbrev pub HasNoRecords : Result (Option Found) JournalFault → Type 0
HasNoRecords (Ok None) = Unit {0}
HasNoRecords (Ok (Some found)) = ⊥
HasNoRecords (Err fault) = Unit {0}

-- the bytes are a journal of the inputs of this plan, with these records, the newest first
pub record IsJournalOf (plan : Plan) (bytes : List ℕ) (past : List Record) : Type 0 where
  pub header : Header
  pub reads : replay_by plan bytes ≡ read_of header past

-- and the records are those of a finished run without abort
pub record IsSoundJournal (plan : Plan) (bytes : List ℕ) (past : List Record) : Type 0 where
  pub journal : IsJournalOf plan bytes past
  pub finished : IsTrue (is_finished plan past)
  pub abort_free : IsFalse (is_aborted plan past)

-- the bytes are the journal of a finished run of this plan without abort
abbrev pub AreSound : Plan → List ℕ → Type 0
AreSound plan bytes = (past : List Record) × IsSoundJournal plan bytes past

-- the same, and these are the fates by the table of its endings
pub record IsAuditOf (plan : Plan) (bytes : List ℕ) (fates : List Fate) : Type 0 where
  pub past : List Record
  pub sound : IsSoundJournal plan bytes past
  pub are_fates : AreFatesOf plan (table_of past) fates

-- Why the bytes are not that: they are no journal of these inputs; a record may not follow those before it; the records are
-- those of a run that has no Finish; or of one that is finished, and was aborted. Memory may run out before.
pub data IsAuditNo (plan : Plan) (bytes : List ℕ) : AuditNo → Type 0 where
  no_journal : HasNoRecords (replay_by plan bytes) → IsAuditNo plan bytes NotAJournal
  foreign_record : (slot : ℕ) → IsForeignSlot plan (replay_by plan bytes) (groups_in bytes) slot → IsAuditNo plan bytes (NotARun slot)
  no_finish : (past : List Record) → IsJournalOf plan bytes past → IsTrue (is_lawful plan past) → IsFalse (is_over past) →
      IsAuditNo plan bytes Unfinished
  had_abort : (past : List Record) → IsJournalOf plan bytes past → IsTrue (is_finished plan past) → IsTrue (is_aborted plan past) →
      IsAuditNo plan bytes Aborted
  no_memory : IsAuditNo plan bytes Memory

-- what is answered for a journal that can't be read
abbrev pub no_of : JournalFault → AuditNo
no_of journal.Memory = Memory
no_of journal.Device = NotAJournal
no_of journal.DiskFull = NotAJournal
no_of journal.NotAJournal = NotAJournal
no_of (journal.Version v) = NotAJournal
no_of journal.OtherInputs = NotAJournal
no_of journal.OtherFlag = NotAJournal
no_of journal.SlotsFull = NotAJournal
no_of journal.Broken = NotAJournal
no_of (journal.BadSlot slot) = NotAJournal

-- `CODE Name detail`
abbrev pub no_text : AuditNo → List ℕ
no_text NotAJournal = codes "F1 NotAJournal"
no_text (NotARun slot) = codes "F2 NotARun " ++ decimal slot
no_text Unfinished = codes "F3 Unfinished"
no_text Memory = codes "F4 Memory"
no_text Aborted = codes "F5 Aborted"
