-- Where a round is led: the disks of its journal and of its rescue file, and its children.
use Rattle.std.specs.Prelude.{◌≡◌, ◌⊎◌, ◌++◌, ℕ, List, [], Option, Some, None, codes}
use Rattle.event_journal_log.specs.declared.disk.Disk.{Ghosts}
use Rattle.splices_flat.specs.Opening.{Files}
use Rattle.splices_flat.specs.Paths.{join}
use Rattle.rescue_file.specs.Numbered.{rescue_name_of}
use Rattle.event_journal.specs.declared.file.FileDisk.{FileDisk}
use Rattle.event_journal.specs.Files.{file_path}
use Rattle.throttles.specs.declared.Limits.{Limits}
use Rattle.job_starter_local.specs.declared.launching.Launcher.{Launcher}
use Rattle.run_plan.specs.Plan.{Plan}
use Rattle.recovery_manager.specs.declared.fault.ManagerFault.{ManagerFault}
use Rattle.recovery_manager.specs.declared.fault.ManagerFault.TheVariants as faults
use Rattle.job_starter_drive.specs.declared.Call.{Call}
use Rattle.job_starter_drive.specs.Calls.{any_ending, running}
use Rattle.job_starter_drive.specs.declared.driving.DriveFault.{DriveFault}
use Rattle.job_starter_drive.specs.declared.driving.DriveFault.TheVariants as drives
use Rattle.run_round.specs.declared.rounds.Start.{Start}
use Rattle.run_round.specs.declared.rounds.Start.TheVariants.{Begin, GoOn}
use Rattle.run_round.specs.Rounds.{IsRoundRun}
use Rattle.run_round.specs.Causes.{IsRoundRefusal}
use Rattle.dag_main_files.specs.declared.rounds.Journaled.{Journaled}
use Rattle.dag_main_files.specs.declared.rounds.Journaled.TheVariants as journals
use Rattle.dag_main_files.specs.declared.rounds.Round.{Round}
use Rattle.dag_main_files.specs.Beside.{journal_name_of}
use Rattle.dag_main_check.specs.declared.fault.RunFault.{RunFault}
use Rattle.dag_main_check.specs.declared.fault.RunFault.TheVariants.{InManager, StartMemory, WaitFault, Halted, Memory}
use Rattle.dag_main_run.specs.declared.halting.HaltCause.{HaltCause}
use Rattle.dag_main_run.specs.declared.halting.HaltCause.TheVariants as causes

-- how the manager of a round begins, by its journal and by the numbers of its rescue files
abbrev pub start_with : Journaled → ℕ → ℕ → Start
start_with journals.Nothing used next = Begin used next
start_with journals.Finished used next = Begin used next
start_with journals.Unfinished used next = GoOn

abbrev pub start_by : Round → Start
start_by round = start_with round.journal round.used round.next

-- the bytes on which the journal of a round begins: those of its file; none where that is missing, or is put away first
abbrev pub bytes_found : Journaled → Option (List ℕ) → List ℕ
bytes_found journals.Finished held = []
bytes_found journals.Nothing None = []
bytes_found journals.Nothing (Some bytes) = bytes
bytes_found journals.Unfinished None = []
bytes_found journals.Unfinished (Some bytes) = bytes

-- the same where these files are held
abbrev pub journal_found : Files → List ℕ → Round → List ℕ
journal_found holds top round = bytes_found round.journal (holds (journal_name_of top))

-- What a site knows of its own: which disk is that of the journal of a DAG file, and which that of its rescue file of a number; which calls its
-- children answered that are started by a launcher, the newest first, with so many that were refused before the first and after the last; and that it
-- isn't told how children end.
pub record Own (D R : Type 0) : Type 1 where
  pub is_journal : List ℕ → D → Type 0
  pub is_rescue : List ℕ → ℕ → R → Type 0
  pub answered : Launcher → List Call → ℕ → ℕ → Type 0
  pub is_deaf : Type 0

-- What the system knows of its own where paths are seen from this folder: its disks are files, each by its own path; and nothing was refused to its
-- children before the first call. Of whether it is deaf nothing is known.
abbrev pub own_from : {R F : Type 0} → List ℕ → Own (FileDisk R F) (FileDisk R F)
own_from seat = record {
  is_journal = λ top disk. file_path disk ≡ join seat (journal_name_of top);
  is_rescue = λ top number disk. file_path disk ≡ join seat (rescue_name_of top number);
  answered = λ launcher calls before now. before ≡ 0;
  is_deaf = Unit {0};
}

-- the same where nobody knows from which folder
abbrev pub own_somewhere : {R F : Type 0} → Own (FileDisk R F) (FileDisk R F)
own_somewhere = record {
  is_journal = λ top disk. (seat : List ℕ) × (file_path disk ≡ join seat (journal_name_of top));
  is_rescue = λ top number disk. (seat : List ℕ) × (file_path disk ≡ join seat (rescue_name_of top number));
  answered = λ launcher calls before now. before ≡ 0;
  is_deaf = Unit {0};
}

-- what one site knows, another one knows too
pub record IsKnownTo {D R : Type 0} (own known : Own D R) : Type 0 where
  pub journals : (top : List ℕ) (disk : D) → own.is_journal top disk → known.is_journal top disk
  pub rescues : (top : List ℕ) (number : ℕ) (disk : R) → own.is_rescue top number disk → known.is_rescue top number disk
  pub children : (launcher : Launcher) (calls : List Call) (before now : ℕ) → own.answered launcher calls before now → known.answered launcher calls before now
  pub deaf : own.is_deaf → known.is_deaf

-- The disks with which a round is led, and the calls of its children, whose jobs this launcher starts: they are those of the site, and no child is left.
-- Where the site is honest, so are the disks, and that of the journal reads as these files hold it; and it is honest only there.
pub record IsAtSite {D R : Type 0} (disks : Ghosts D) (rescues : Ghosts R) (own : Own D R) (Honest : Type 0) (holds : Files) (top : List ℕ) (launcher : Launcher) (round : Round)
    (journal : D) (rescue : R) (calls : List Call) (before now : ℕ) : Type 0 where
  pub is_journal : own.is_journal top journal
  pub is_rescue : own.is_rescue top round.next rescue
  pub answered : own.answered launcher calls before now
  pub none_left : running calls ≡ []
  pub honest : Honest → disks.honest journal × rescues.honest rescue
  pub found : Honest → disks.seen journal ≡ journal_found holds top round
  pub back : disks.honest journal → Honest

-- A round was led to its end at a site, under these limits and by this launcher, and printed this.
pub record IsRoundLedAt {D R : Type 0} (disks : Ghosts D) (rescues : Ghosts R) (own : Own D R) (Honest : Type 0) (holds : Files) (top : List ℕ)
    (limits : Limits) (launcher : Launcher) (plan : Plan) (round : Round) (text : List ℕ) (status : ℕ) : Type 0 where
  pub journal : D
  pub rescue : R
  pub left : D
  pub rest : Option R
  pub calls : List Call
  pub before : ℕ
  pub now : ℕ
  pub at_site : IsAtSite disks rescues own Honest holds top launcher round journal rescue calls before now
  pub led : IsRoundRun disks rescues plan (start_by round) limits any_ending [] calls journal left rescue text status rest

-- What asks for a halt: the file of the DAG file's name and `.halt`; the option; the DAG file's path, which leads into another folder by now; or the journal,
-- whose path is gone or names another file by now.
abbrev pub AsksToHalt : (top asked : List ℕ) → Type 0
AsksToHalt top asked =
    (asked ≡ top ++ codes ".halt") ⊎ ((asked ≡ codes "--stop-at-first-error") ⊎ ((asked ≡ top) ⊎ (asked ≡ journal_name_of top)))

-- which of these it is, by the cause
abbrev pub halt_name : (top : List ℕ) → HaltCause → List ℕ
halt_name top causes.File = top ++ codes ".halt"
halt_name top causes.Error = codes "--stop-at-first-error"
halt_name top causes.Moved = top
halt_name top causes.JournalGone = journal_name_of top

-- a run is refused as one that was halted by what has this name, or memory ran out
pub data IsHaltBy (asked : List ℕ) : RunFault → Type 0 where
  halted_by : IsHaltBy asked (Halted asked)
  naming_halt_had_no_memory : IsHaltBy asked Memory

-- what is returned for the fault of a manager
abbrev pub manager_refusal : ManagerFault → RunFault
manager_refusal faults.Memory = Memory
manager_refusal fault = InManager fault

-- What is returned for the cause that stops a round: the fault of its manager or of its children; where it was halted, what asked for that; or
-- memory ran out.
pub data IsReturned (top : List ℕ) : DriveFault → RunFault → Type 0 where
  for_memory : IsReturned top drives.Memory Memory
  for_manager : (fault : ManagerFault) → IsReturned top (drives.Manager fault) (manager_refusal fault)
  for_memory_of_child : IsReturned top drives.StartMemory StartMemory
  for_wait : IsReturned top drives.WaitFault WaitFault
  for_halt : (asked : List ℕ) → AsksToHalt top asked → IsReturned top drives.Halted (Halted asked)
  for_halt_without_memory : IsReturned top drives.Halted Memory

-- It was not led to its end there, for one of the causes of a round, and this is returned.
pub record IsRoundStoppedAt {D R : Type 0} (disks : Ghosts D) (rescues : Ghosts R) (own : Own D R) (Honest : Type 0) (holds : Files) (top : List ℕ)
    (limits : Limits) (launcher : Launcher) (plan : Plan) (round : Round) (fault : RunFault) : Type 0 where
  pub journal : D
  pub rescue : R
  pub left : D
  pub rest : Option R
  pub calls : List Call
  pub before : ℕ
  pub now : ℕ
  pub cause : DriveFault
  pub at_site : IsAtSite disks rescues own Honest holds top launcher round journal rescue calls before now
  pub refused : IsRoundRefusal disks rescues before now plan 16777216 (start_by round) limits any_ending [] calls journal left rescue rest cause
  pub returned : IsReturned top cause fault

-- What is said of the rounds that are led somewhere, by the path of the DAG file, the limits and the launcher: of one that was led to its end, and printed
-- this; of one that was stopped, and for which this is returned; and that it isn't told there how children end.
pub record Rounds : Type 1 where
  pub led : (top : List ℕ) → Limits → Launcher → Plan → Round → (text : List ℕ) → (status : ℕ) → Type 0
  pub stopped : (top : List ℕ) → Limits → Launcher → Plan → Round → RunFault → Type 0
  pub is_deaf : Type 0

-- at a site, whose folder holds these files where it is honest
abbrev pub rounds_at : {D R : Type 0} → Ghosts D → Ghosts R → Own D R → Type 0 → Files → Rounds
rounds_at disks rescues own Honest holds = record {
  led = IsRoundLedAt disks rescues own Honest holds;
  stopped = IsRoundStoppedAt disks rescues own Honest holds;
  is_deaf = own.is_deaf;
}
