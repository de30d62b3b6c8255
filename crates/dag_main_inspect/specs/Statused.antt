-- What `status` prints.
use Rattle.std.specs.Prelude.{◌≡◌, ℕ, Bool, List, [], Option, Some, None, Result, Ok, Err, IsTrue}
use Rattle.run_plan.specs.Plan.{Plan}
use Rattle.node_machine.specs.declared.Record.{Record}
use Rattle.sched_core.specs.Run.{chronological, is_lawful}
use Rattle.event_journal_log.specs.declared.fault.JournalFault.{JournalFault}
use Rattle.event_journal_log.specs.declared.fault.JournalFault.TheVariants as journal
use Rattle.event_journal_log.specs.Image.{Found, replay_of, groups_in}
use Rattle.event_journal_log.specs.Peeks.{flag_read}
use Rattle.recovery.specs.Replay.{IsForeignSlot}
use Rattle.recovery_manager.specs.declared.fault.ManagerFault.TheVariants as manager
use Rattle.recovery_manager.specs.Inputs.{replay_by}
use Rattle.status_report.specs.Text.{status_text_of}
use Rattle.dag_main_check.specs.declared.fault.RunFault.{RunFault}
use Rattle.dag_main_check.specs.declared.fault.RunFault.TheVariants.{InManager, Memory}
use Rattle.dag_main_inspect.specs.StatusData.{status_json_of}
use Rattle.dag_main_inspect.specs.declared.statuses.Form.{Form}
use Rattle.dag_main_inspect.specs.declared.statuses.Form.TheVariants.{Lines, Json}

-- a journal that is not there has no bytes
abbrev pub journal_bytes : Option (List ℕ) → List ℕ
journal_bytes None = []
journal_bytes (Some bytes) = bytes

-- whether POST runs after a failed PRE in the run of a journal, as its header says
abbrev pub flag_by : Option (List ℕ) → Bool
flag_by journal = flag_read (replay_of (journal_bytes journal))

-- the records that reading gives, the oldest first; a Fresh place has none
abbrev pub records_read : Result (Option Found) JournalFault → Option (List Record)
records_read (Ok None) = Some []
records_read (Ok (Some found)) = Some found.records
records_read (Err fault) = None

-- the records of a journal of this plan that has these bytes
abbrev pub records_in_bytes : Plan → List ℕ → Option (List Record)
records_in_bytes plan bytes = records_read (replay_by plan bytes)

-- what is returned for bytes that can't be read
abbrev pub bytes_fault : JournalFault → RunFault
bytes_fault journal.Memory = Memory
bytes_fault journal.Device = InManager (manager.Journal journal.Device)
bytes_fault journal.DiskFull = InManager (manager.Journal journal.DiskFull)
bytes_fault journal.NotAJournal = InManager (manager.Journal journal.NotAJournal)
bytes_fault (journal.Version v) = InManager (manager.Journal (journal.Version v))
bytes_fault journal.OtherInputs = InManager (manager.Journal journal.OtherInputs)
bytes_fault journal.OtherFlag = InManager (manager.Journal journal.OtherFlag)
bytes_fault journal.SlotsFull = InManager (manager.Journal journal.SlotsFull)
bytes_fault journal.Broken = InManager (manager.Journal journal.Broken)
bytes_fault (journal.BadSlot slot) = InManager (manager.Journal (journal.BadSlot slot))

-- the text of a status in a form, where the DAG file has this path: the status text, or its JSON
abbrev pub form_text : Form → List ℕ → Plan → List Record → List ℕ
form_text Lines path = status_text_of
form_text Json path = status_json_of path

-- The text that is made so of the records of a journal that has these bytes, which are lawful; and the exit status.
pub record IsStatusBy (text_of : Plan → List Record → List ℕ) (plan : Plan) (bytes text : List ℕ) (status : ℕ) : Type 0 where
  pub past : List Record
  pub are_records : records_in_bytes plan bytes ≡ Some (chronological past)
  pub lawful : IsTrue (is_lawful plan past)
  pub text_is : text ≡ text_of plan past
  pub status_is : status ≡ 0

-- Why there is none: the bytes are no journal of this plan; a record may not follow those before it; memory ran out.
pub data IsRecordsFault (plan : Plan) (bytes : List ℕ) : RunFault → Type 0 where
  no_journal : (fault : JournalFault) → replay_by plan bytes ≡ Err fault → IsRecordsFault plan bytes (InManager (manager.Journal fault))
  foreign_record : (slot : ℕ) → IsForeignSlot plan (replay_by plan bytes) (groups_in bytes) slot →
      IsRecordsFault plan bytes (InManager (manager.Foreign slot))
  reading_had_no_memory : IsRecordsFault plan bytes Memory
