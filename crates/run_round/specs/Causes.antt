-- Why a run is not led to its end.
use Rattle.std.specs.Prelude.{◌≡◌, ◌⊎◌, ℕ, ◌<◌, List, [], ◌∷◌, length, Option, Some, None, IsTrue}
use Rattle.event_journal_log.specs.declared.disk.Disk.{Ghosts}
use Rattle.node_machine.specs.declared.Key.{Key}
use Rattle.node_machine.specs.declared.Outcome.{Outcome}
use Rattle.throttles.specs.declared.Limits.{Limits}
use Rattle.run_plan.specs.Plan.{Plan}
use Rattle.node_machine.specs.declared.Record.{Record}
use Rattle.node_machine.specs.declared.Record.TheVariants.{Finish}
use Rattle.sched_core.specs.Run.{exit_status}
use Rattle.event_journal_log.specs.Crashes.{CrashesLeave}
use Rattle.event_journal_log.specs.Disk.{Rises}
use Rattle.event_journal_log.specs.declared.fault.JournalFault.TheVariants as journal
use Rattle.event_journal_log.specs.declared.fault.JournalFault.{JournalFault}
use Rattle.recovery_manager.specs.Faults.{IsImageFault, IsFaultOfDisk}
use Rattle.recovery_manager.specs.Managed.{Managed, plan_of, past_of, disk_of}
use Rattle.recovery_manager.specs.Seal.{needs_rescue_now, IsRescued}
use Rattle.recovery_manager.specs.Rescue.{rescue_text_for}
use Rattle.recovery_manager.specs.declared.fault.ManagerFault.{ManagerFault}
use Rattle.recovery_manager.specs.declared.fault.ManagerFault.TheVariants as faults
use Rattle.recovery.specs.Recovery.{IsUntouched}
use Rattle.job_starter_drive.specs.declared.Call.{Call}
use Rattle.job_starter_drive.specs.Calls.{Telling}
use Rattle.job_starter_drive.specs.Drives.{limits_of}
use Rattle.job_starter_drive.specs.Causes.{IsStoppedFor, AreRefused}
use Rattle.job_starter_drive.specs.Moments.{IsMomentOfRun, IsLastMoment, AtAnyMoment, AtTheEnd, StaysAcknowledged}
use Rattle.job_starter_drive.specs.declared.driving.DriveFault.{DriveFault}
use Rattle.job_starter_drive.specs.declared.driving.DriveFault.TheVariants as drives
use Rattle.run_round.specs.declared.rounds.Start.{Start}
use Rattle.run_round.specs.RunToEnd.{DrivesToEnd, IsAtEnd}
use Rattle.run_round.specs.Rounds.{IsMomentOfOpening, IsOpeningFault, IsRoundOpened, IsRoundOnDisk}

-- Why the rescue file of these records isn't on its disk, and what is left of that: memory was refused for its text, and nothing was
-- written; or the disk failed, or has no room for it.
pub data IsSealFault {R : Type 0} (disks : Ghosts R) (plan : Plan) (past : List Record) (disk left : R) : ManagerFault → Type 0 where
  text_had_no_memory : left ≡ disk → IsSealFault disks plan past disk left faults.Memory
  rescue_failed : Rises (disks.faults disk) (disks.faults left) →
      IsSealFault disks plan past disk left (faults.Journal journal.Device)
  rescue_had_no_room : disks.capacity disk < length (rescue_text_for plan past) →
      IsSealFault disks plan past disk left (faults.Journal journal.DiskFull)

-- The rescue file's disk has nothing to do with the journal: where that one fails, a crash leaves of the journal, at any moment and after the call,
-- what it leaves of a run without a fault, and all that was recorded stays.
pub record IsJournalKept {D : Type 0} (disks : Ghosts D) (may : Telling) (old manager : Managed D) (call_log later_log : List Call) : Type 0 where
  pub any_moment : AtAnyMoment disks old manager (IsMomentOfRun (limits_of old) (plan_of old) may (past_of old) call_log None (past_of manager) later_log)
  pub at_the_end : AtTheEnd disks old manager (IsLastMoment (limits_of old) (plan_of old) may (past_of old) call_log None (past_of manager) later_log)
  pub acknowledged : StaysAcknowledged disks old manager

-- Why a run isn't led to its end, by the starter's counts of refusals, and by the manager and the disk for the rescue file that were
-- there and that are left; and what was recorded and answered so far. It was stopped on the way, and no rescue file was begun; or, after
-- all its steps, the rescue file that it needs isn't written, and the journal is as it was; or that file is written, and the record of the run's
-- end was refused, alone; or it ended, and memory was refused for its report. A run that needs no rescue file leaves none after its steps.
pub data IsRunToEndFault {D R : Type 0} (disks : Ghosts D) (rescues : Ghosts R) (before now : ℕ)
    (may : Telling) (old manager : Managed D) (call_log later_log : List Call) (disk : R) (left : Option R) : DriveFault → Type 0 where
  stopped : {fault : DriveFault} → IsStoppedFor disks before now may old manager call_log later_log fault → left ≡ Some disk →
      IsRunToEndFault disks rescues before now may old manager call_log later_log disk left fault
  not_sealed : {fault : ManagerFault} (rest : R) → left ≡ Some rest → IsAtEnd (limits_of old) (plan_of old) may (past_of old) call_log (past_of manager) later_log →
      IsTrue (needs_rescue_now (plan_of manager) (past_of manager)) →
      IsSealFault rescues (plan_of manager) (past_of manager) disk rest fault →
      IsJournalKept disks may old manager call_log later_log →
      IsRunToEndFault disks rescues before now may old manager call_log later_log disk left (drives.Manager fault)
  end_refused : {fault : ManagerFault} → IsAtEnd (limits_of old) (plan_of old) may (past_of old) call_log (past_of manager) later_log →
      AreRefused disks (Finish (exit_status (plan_of manager) (past_of manager)) ∷ []) old manager fault →
      IsRescued rescues (plan_of manager) (past_of manager) left →
      IsRunToEndFault disks rescues before now may old manager call_log later_log disk left (drives.Manager fault)
  no_memory_for_report : DrivesToEnd (limits_of old) (plan_of old) may (past_of old) call_log (past_of manager) later_log →
      IsRescued rescues (plan_of manager) (past_of manager) left →
      IsRunToEndFault disks rescues before now may old manager call_log later_log disk left drives.Memory

-- the faults of a manager by which a round is stopped: those of the disks, and of what is on the journal's
pub data IsManagerStop : ManagerFault → Type 0 where
  stopped_by_memory : IsManagerStop faults.Memory
  stopped_by_disk : IsManagerStop (faults.Journal journal.Device)
  stopped_by_room : IsManagerStop (faults.Journal journal.DiskFull)
  stopped_by_slots : IsManagerStop (faults.Journal journal.SlotsFull)
  stopped_by_image : (fault : JournalFault) → IsImageFault fault → IsManagerStop (faults.Journal fault)
  stopped_by_record : (slot : ℕ) → IsManagerStop (faults.Foreign slot)
  stopped_by_end : IsManagerStop faults.AlreadyFinished

-- a round may be stopped so
abbrev pub MayStop : DriveFault → Type 0
MayStop (drives.Manager fault) = IsManagerStop fault
MayStop _ = Unit {0}

-- Why a round isn't run to its end, and what is left of the journal's disk and of the rescue file's: its manager refuses to begin, or to
-- go on, and nothing was handed over; or, begun on what was there, it isn't led to its end.
pub data IsRoundRefusal {D R : Type 0} (disks : Ghosts D) (rescues : Ghosts R) (before now : ℕ) (plan : Plan) (slots : ℕ) (start : Start) (limits : Limits)
    (may : Telling) (call_log later_log : List Call) (disk left : D) (rescue : R) (rest : Option R) : DriveFault → Type 0 where
  not_opened : {fault : ManagerFault} → later_log ≡ call_log → rest ≡ Some rescue → IsOpeningFault disks plan slots start disk left fault →
      (disks.honest disk → IsFaultOfDisk fault ⊎ IsUntouched disks disk left) →
      (disks.honest disk → CrashesLeave disks disk left (IsMomentOfOpening start plan (disks.may_leave disk) (disks.seen disk))) →
      IsRoundRefusal disks rescues before now plan slots start limits may call_log later_log disk left rescue rest (drives.Manager fault)
  not_led : {fault : DriveFault} → (opened manager : Managed D) → IsRoundOpened disks plan slots start limits disk opened → disk_of manager ≡ left →
      IsRunToEndFault disks rescues before now may opened manager call_log later_log rescue rest fault →
      (disks.honest disk → IsRoundOnDisk disks rescues rest start limits plan may (past_of opened) call_log (Some fault) (past_of manager) later_log disk left) →
      IsRoundRefusal disks rescues before now plan slots start limits may call_log later_log disk left rescue rest fault
