-- A rehearsal of more records than its journal has slots.
use Rattle.std.specs.Prelude.{◌≡◌, ℕ, ◌+◌, ◌<◌, List, [], ◌∷◌, IsTrue}
use Rattle.node_machine.specs.OutcomeTable.{Entry}
use Rattle.node_machine.specs.declared.Record.{Record}
use Rattle.node_machine.specs.declared.Record.TheVariants.{Life, Finish}
use Rattle.throttles.specs.declared.Limits.{Limits}
use Rattle.run_plan.specs.Plan.{Plan}
use Rattle.sched_core.specs.Run.{exit_status}
use Rattle.sched_core.specs.Ahead.{added, may_follow_all}
use Rattle.event_journal_log.specs.Groups.{slots_of, slots_in, records_in}
use Rattle.event_journal_log.specs.declared.fault.JournalFault.TheVariants.{SlotsFull}
use Rattle.recovery_manager.specs.declared.fault.ManagerFault.{ManagerFault}
use Rattle.recovery_manager.specs.declared.fault.ManagerFault.TheVariants.{Journal}
use Rattle.job_starter_drive.specs.declared.Call.{Call}
use Rattle.job_starter_drive.specs.Calls.{Telling}
use Rattle.job_starter_drive.specs.declared.driving.DriveFault.TheVariants as drives
use Rattle.job_starter_drive.specs.Drives.{IsStopped}
use Rattle.job_starter_drive.specs.Scripts.{IsScripted}
use Rattle.run_round.specs.RunToEnd.{IsAtEnd}
use Rattle.dag_main_check.specs.declared.fault.RunFault.{RunFault}
use Rattle.dag_main_check.specs.declared.fault.RunFault.TheVariants.{InManager, Memory}

-- 2^24
abbrev pub most_slots : ℕ
most_slots = 16777216

abbrev pub no_slot : ManagerFault
no_slot = Journal SlotsFull

-- Where a run is stopped for want of slots, and the records that its manager refused there. The run of the plan under these limits began
-- with Life alone, and its children end as is told. One step after another, it came to these records: on the way, where a round is to
-- be launched or ends are owed; or where what is to be done next is to finish, by the record of its end alone.
pub data IsFullAt (limits : Limits) (plan : Plan) (may : Telling) (past : List Record) : List Record → Type 0 where
  full_on_the_way : {refused : List Record} (calls : List Call) →
      IsStopped limits plan may (Life ∷ []) [] (drives.Manager no_slot) refused past calls → IsFullAt limits plan may past refused
  full_at_the_end : (calls : List Call) → IsAtEnd limits plan may (Life ∷ []) [] past calls →
      IsFullAt limits plan may past (Finish (exit_status plan past) ∷ [])

-- These records are Life and groups of others, each written after one gate, after which fewer slots are left than further ones need that are
-- written together.
pub record HasNoSlotsFor (past refused : List Record) : Type 0 where
  pub groups : List (List Record)
  pub are : past ≡ added (Life ∷ []) (records_in groups)
  pub many : most_slots < 1 + slots_in groups + slots_of refused

-- A run has too many records: it came to records after which there are too few slots for those that were to follow.
pub record HasTooManyRecords (limits : Limits) (plan : Plan) (may : Telling) : Type 0 where
  pub past : List Record
  pub refused : List Record
  pub full : IsFullAt limits plan may past refused
  pub follow : IsTrue (may_follow_all plan past refused)
  pub slots : HasNoSlotsFor past refused

-- so has the run of a rehearsal, whose children end as the table says
abbrev pub IsTooLong : Limits → Plan → List Entry → Type 0
IsTooLong limits plan entries = HasTooManyRecords limits plan (IsScripted plan entries [])

-- why a run of a table under limits is stopped
pub data IsTableRunFault (limits : Limits) (plan : Plan) (entries : List Entry) : RunFault → Type 0 where
  has_too_many_records : IsTooLong limits plan entries → IsTableRunFault limits plan entries (InManager no_slot)
  running_had_no_memory : IsTableRunFault limits plan entries Memory
