-- A run that is led to its end.
use Rattle.std.specs.Prelude.{◌≡◌, ℕ, List, ◌∷◌, ◌++◌, Option, Some, None, IsTrue, IsFalse}
use Rattle.event_journal_log.specs.declared.disk.Disk.{Ghosts}
use Rattle.run_plan.specs.Plan.{Plan}
use Rattle.node_machine.specs.declared.Record.{Record}
use Rattle.sched_core.specs.Run.{is_finished, is_aborted, exit_status, table_of}
use Rattle.sched_core.specs.Fate.{AreFates, shown}
use Rattle.status_report.specs.Text.{run_text}
use Rattle.node_machine.specs.declared.Key.{Key}
use Rattle.node_machine.specs.declared.Outcome.{Outcome}
use Rattle.throttles.specs.declared.Limits.{Limits}
use Rattle.node_machine.specs.declared.Record.TheVariants.{Finish}
use Rattle.sched_core.specs.declared.Choice.TheVariants as choices
use Rattle.sched_core.specs.Choices.{IsChoice}
use Rattle.job_starter_drive.specs.declared.Call.{Call}
use Rattle.job_starter_drive.specs.Calls.{Telling}
use Rattle.job_starter_drive.specs.Drives.{Drives}

-- the disk is honest, where there is one
abbrev pub StaysHonest : {R : Type 0} → Ghosts R → Option R → Type 0
StaysHonest disks None = Unit {0}
StaysHonest disks (Some disk) = disks.honest disk

-- the records went on from these
abbrev pub IsSuffix : List Record → List Record → Type 0
IsSuffix begun records = (own : List Record) × (records ≡ own ++ begun)

-- The run went on from the records with which its life began, to its end; and this is printed: the status text of its
-- records, and its exit status. Without abort each node came to its fate by the endings that were recorded, in whatever
-- lives they were.
pub record IsRunToEnd (plan : Plan) (begun records : List Record) (text : List ℕ) (status : ℕ) : Type 0 where
  pub goes_on : IsSuffix begun records
  pub finished : IsTrue (is_finished plan records)
  pub fates : IsFalse (is_aborted plan records) → AreFates plan (table_of records) (shown plan records)
  pub text_is : text ≡ run_text plan records status
  pub status_is : status ≡ exit_status plan records

-- One step of a run after another, until what is to be done next is to finish; and then its end, with that verdict.
pub record DrivesToEnd (limits : Limits) (plan : Plan) (may : Telling) (past : List Record) (call_log : List Call) (records : List Record) (later_log : List Call) : Type 0 where
  pub between : List Record
  pub status : ℕ
  pub steps : Drives limits plan may past call_log between later_log
  pub chosen : IsChoice limits plan between (choices.Finish status)
  pub ended : records ≡ Finish status ∷ between

-- One step of a run after another, until what is to be done next is to finish.
pub record IsAtEnd (limits : Limits) (plan : Plan) (may : Telling) (past : List Record) (call_log : List Call) (records : List Record) (later_log : List Call) : Type 0 where
  pub status : ℕ
  pub steps : Drives limits plan may past call_log records later_log
  pub chosen : IsChoice limits plan records (choices.Finish status)
