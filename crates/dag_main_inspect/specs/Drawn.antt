-- What `graph` prints.
use Rattle.std.specs.Prelude.{◌≡◌, ℕ, Bool, true, false, List, Option, Some, Err, IsTrue}
use Rattle.splices_flat.specs.Opening.{Files}
use Rattle.run_plan.specs.Plan.{Plan}
use Rattle.node_machine.specs.declared.Record.{Record}
use Rattle.sched_core.specs.Run.{chronological, is_lawful}
use Rattle.event_journal_log.specs.declared.fault.JournalFault.{JournalFault}
use Rattle.event_journal_log.specs.declared.fault.JournalFault.TheVariants as journal
use Rattle.recovery_manager.specs.declared.fault.ManagerFault.{ManagerFault}
use Rattle.recovery_manager.specs.declared.fault.ManagerFault.TheVariants as manager
use Rattle.recovery_manager.specs.Inputs.{replay_by}
use Rattle.status_report.specs.declared.status.Status.{Status}
use Rattle.graph_text.specs.Picture.{unknown, known, dot_text_of}
use Rattle.graph_text.specs.Folded.{IsFoldedText}
use Rattle.dag_main_check.specs.Planned.{IsPlanOf}
use Rattle.dag_main_check.specs.Warnings.{warning_lines}
use Rattle.dag_main_check.specs.declared.fault.RunFault.{RunFault}
use Rattle.dag_main_check.specs.declared.fault.RunFault.TheVariants.{InFiles, Cycle, InPlan, InTable, InRescue, NotThere, Unfinished, InManager, StartMemory, WaitFault, Halted, FileRefused, Memory}
use Rattle.dag_main_inspect.specs.declared.graphs.Shape.{Shape}
use Rattle.dag_main_inspect.specs.declared.graphs.Shape.TheVariants.{Nodes, Boxes}
use Rattle.dag_main_inspect.specs.Statused.{records_in_bytes, IsRecordsFault}

-- The text of a picture of a plan whose nodes stand so: of each node, or of boxes in which those of one shape are folded.
abbrev pub IsDrawnText : Shape → Plan → (ℕ → Option Status) → List ℕ → Type 0
IsDrawnText Nodes plan states text = text ≡ dot_text_of plan states
IsDrawnText Boxes plan states text = IsFoldedText plan states text

-- The picture of a plan that has a journal of these bytes: its nodes stand as the records say; or the journal is that of other files, or of a
-- run with the other flag, and says nothing of them.
pub data IsPicture (shape : Shape) (plan : Plan) (bytes : List ℕ) : List ℕ → Type 0 where
  of_run : (past : List Record) (text : List ℕ) → records_in_bytes plan bytes ≡ Some (chronological past) → IsTrue (is_lawful plan past) →
      IsDrawnText shape plan (known plan past) text → IsPicture shape plan bytes text
  of_others : (text : List ℕ) → replay_by plan bytes ≡ Err journal.OtherInputs → IsDrawnText shape plan unknown text → IsPicture shape plan bytes text
  of_other_flag : (text : List ℕ) → replay_by plan bytes ≡ Err journal.OtherFlag → IsDrawnText shape plan unknown text → IsPicture shape plan bytes text

-- the picture of the DAG files of a path alone
abbrev pub IsBarePicture : Shape → Files → List ℕ → List ℕ → List ℕ → Type 0
IsBarePicture shape files path text warnings =
    (plan : Plan) × IsPlanOf false files path plan × IsDrawnText shape plan unknown text × (warnings ≡ warning_lines plan.graph.dag.warnings)

-- that is the answer where there is no journal, and the exit status is 0
abbrev pub IsBareDrawn : Shape → Files → List ℕ → List ℕ → List ℕ → ℕ → Type 0
IsBareDrawn shape files path text warnings status = IsBarePicture shape files path text warnings × (status ≡ 0)

-- a fault tells that a journal is that of other files (J5), or of a run with the other flag (J10)
abbrev pub is_of_others : JournalFault → Bool
is_of_others journal.Memory = false
is_of_others journal.Device = false
is_of_others journal.DiskFull = false
is_of_others journal.NotAJournal = false
is_of_others (journal.Version v) = false
is_of_others journal.OtherInputs = true
is_of_others journal.OtherFlag = true
is_of_others journal.SlotsFull = false
is_of_others journal.Broken = false
is_of_others (journal.BadSlot slot) = false

abbrev pub in_manager : ManagerFault → Bool
in_manager (manager.Journal fault) = is_of_others fault
in_manager (manager.Foreign slot) = false
in_manager manager.NotLawful = false
in_manager manager.Memory = false
in_manager manager.AlreadyFinished = false

abbrev pub tells_of_others : RunFault → Bool
tells_of_others (InFiles fault) = false
tells_of_others (Cycle names) = false
tells_of_others (InPlan fault) = false
tells_of_others (InTable fault) = false
tells_of_others (InRescue file fault) = false
tells_of_others (NotThere number) = false
tells_of_others Unfinished = false
tells_of_others (InManager fault) = in_manager fault
tells_of_others StartMemory = false
tells_of_others WaitFault = false
tells_of_others (Halted asked) = false
tells_of_others (FileRefused file) = false
tells_of_others Memory = false

-- Why a plan with a journal of these bytes is not drawn: they have no records of a run, and are not the journal of other files; memory ran out.
pub data IsJournalDrawnFault (plan : Plan) (bytes : List ℕ) : RunFault → Type 0 where
  no_records : (fault : RunFault) → tells_of_others fault ≡ false → IsRecordsFault plan bytes fault → IsJournalDrawnFault plan bytes fault
  drawing_had_no_memory : IsJournalDrawnFault plan bytes Memory
