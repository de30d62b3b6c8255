-- Why a starter refuses a call, and why a run is stopped before its end.
use Rattle.std.specs.Prelude.{◌≡◌, ℕ, List, [], IsTrue}
use Rattle.event_journal_log.specs.declared.disk.Disk.{Ghosts}
use Rattle.node_machine.specs.declared.Record.{Record}
use Rattle.sched_core.specs.Ahead.{may_follow_all}
use Rattle.event_journal_log.specs.Disk.{IsOneMore}
use Rattle.recovery_manager.specs.Managed.{Managed, plan_of, past_of, KeepsDisk}
use Rattle.recovery_manager.specs.Batched.{IsUnwritten}
use Rattle.recovery_manager.specs.declared.fault.ManagerFault.{ManagerFault}
use Rattle.recovery_manager.specs.declared.fault.ManagerFault.TheVariants as faults
use Rattle.job_starter_drive.specs.declared.Call.{Call}
use Rattle.job_starter_drive.specs.declared.StartFault.{StartFault}
use Rattle.job_starter_drive.specs.declared.StartFault.TheVariants as starts
use Rattle.job_starter_drive.specs.declared.driving.DriveFault.{DriveFault}
use Rattle.job_starter_drive.specs.declared.driving.DriveFault.TheVariants as drives
use Rattle.job_starter_drive.specs.Calls.{running, Telling}
use Rattle.job_starter_drive.specs.Drives.{limits_of, IsStopped}
use Rattle.job_starter_drive.specs.Moments.{CountsOn}

-- Why a child is neither started nor answered as not started, by the system's counts of refusals before and after: memory, which is
-- one refusal.
pub data IsStartFault (before now : ℕ) : StartFault → Type 0 where
  start_had_no_memory : IsOneMore before now → IsStartFault before now starts.StartMemory

-- Why a system doesn't say how a child does: it refused the question or the wait.
pub data IsAskFault (before now : ℕ) : StartFault → Type 0 where
  asking_refused : IsOneMore before now → IsAskFault before now starts.WaitFault

-- Why a starter tells no ending: the system refused a question or a wait, once; or no child runs, which counts as no refusal.
pub data IsWaitFault (before now : ℕ) (call_log : List Call) : StartFault → Type 0 where
  waiting_refused : IsOneMore before now → IsWaitFault before now call_log starts.WaitFault
  no_child_runs : running call_log ≡ [] → now ≡ before → IsWaitFault before now call_log starts.NoChild

-- A manager refused these records, which may follow: the disk or memory is the cause, by what it was at that call. Then it had the records
-- that are left, and its journal had counted each since the call began; its disk had the same bounds, and had failed no less often.
pub record AreRefused {D : Type 0} (disks : Ghosts D) (refused : List Record) (old manager : Managed D) (fault : ManagerFault) : Type 0 where
  pub then_was : Managed D
  pub same : past_of then_was ≡ past_of manager
  pub disk : KeepsDisk disks old.journal then_was.journal
  pub counts : CountsOn old then_was
  pub lawful : IsTrue (may_follow_all (plan_of manager) (past_of manager) refused)
  pub cause : IsUnwritten disks refused then_was.journal manager.journal fault

-- Why a run is stopped, by the starter's counts of refusals and by the manager that was there and that is left: the starter refused,
-- once; or, where it refused nothing, there was no memory for a command or for the list of a round, the manager refused records, or the run
-- was halted. The list is of the records that the manager refused: none but in that one case.
pub data IsDriveFault {D : Type 0} (disks : Ghosts D) (before now : ℕ) (old manager : Managed D) : List Record → DriveFault → Type 0 where
  no_memory_for_child : IsOneMore before now → IsDriveFault disks before now old manager [] drives.StartMemory
  no_ending_logged : IsOneMore before now → IsDriveFault disks before now old manager [] drives.WaitFault
  no_memory_for_command : now ≡ before → IsDriveFault disks before now old manager [] drives.Memory
  no_memory_for_round : now ≡ before → IsDriveFault disks before now old manager [] (drives.Manager faults.Memory)
  records_refused : {refused : List Record} {fault : ManagerFault} → now ≡ before → AreRefused disks refused old manager fault
      → IsDriveFault disks before now old manager refused (drives.Manager fault)
  run_halted : now ≡ before → IsDriveFault disks before now old manager [] drives.Halted

-- How a fault stopped a run, and why: steps to where this fault stops a run, and then kills; and the cause. The records that the manager
-- refused by the cause are those that it was handed where the run was stopped.
pub record IsStoppedFor {D : Type 0} (disks : Ghosts D) (before now : ℕ) (may : Telling) (old manager : Managed D) (call_log later_log : List Call) (fault : DriveFault) : Type 0 where
  pub refused : List Record
  pub stopped : IsStopped (limits_of old) (plan_of old) may (past_of old) call_log fault refused (past_of manager) later_log
  pub cause : IsDriveFault disks before now old manager refused fault

-- memory was refused for a child or for its command
abbrev pub IsUnspawned : DriveFault → Type 0
IsUnspawned drives.StartMemory = Unit {0}
IsUnspawned drives.Memory = Unit {0}
IsUnspawned drives.WaitFault = ⊥
IsUnspawned (drives.Manager fault) = ⊥
IsUnspawned drives.Halted = ⊥
