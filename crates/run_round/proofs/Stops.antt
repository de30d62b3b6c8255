-- By which faults a round is stopped.
use Rattle.std.proofs.Common.{◌≡◌, ◌∙◌, ℕ, false, List, [], ◌∷◌, Option, sym}
use Rattle.std.proofs.lemmas.Bool.{false≢true}
use Rattle.event_journal_log.specs.declared.disk.Disk.{Ghosts}
use Rattle.node_machine.specs.declared.Key.{Key}
use Rattle.node_machine.specs.declared.Outcome.{Outcome}
use Rattle.throttles.specs.declared.Limits.{Limits}
use Rattle.run_plan.specs.Plan.{Plan}
use Rattle.node_machine.specs.declared.Record.{Record}
use Rattle.node_machine.specs.declared.Record.TheVariants.{Finish}
use Rattle.sched_core.specs.Run.{exit_status}
use Rattle.event_journal_log.specs.declared.journal.Journal.{Journal}
use Rattle.event_journal_log.specs.Journal.{is_broken}
use Rattle.recovery_manager.specs.declared.fault.ManagerFault.{ManagerFault}
use Rattle.recovery_manager.specs.Batched.{IsUnwritten, no_memory_for_all, broken_before, too_few_slots, disk_failed_meanwhile, disk_full_before}
use Rattle.recovery_manager.specs.Managed.{Managed, plan_of, past_of}
use Rattle.recovery.specs.Recovery.{IsBeginFault, begin_failed, begin_had_no_room, begin_had_no_slot, begin_had_no_memory, begun_before, recovery_failed, no_journal, foreign_record, run_finished, recovery_had_no_memory, no_slot_for_life, no_room_for_life}
use Rattle.job_starter_drive.specs.declared.Call.{Call}
use Rattle.job_starter_drive.specs.Calls.{Telling}
use Rattle.job_starter_drive.specs.declared.driving.DriveFault.{DriveFault}
use Rattle.job_starter_drive.specs.Causes.{AreRefused, IsDriveFault, no_memory_for_child, no_ending_logged, no_memory_for_command, no_memory_for_round, run_halted, records_refused}
use Rattle.run_round.specs.declared.rounds.Start.{Start}
use Rattle.run_round.specs.declared.rounds.Start.TheVariants.{Begin, GoOn}
use Rattle.run_round.specs.Rounds.{IsOpeningFault}
use Rattle.run_round.specs.Causes.{IsSealFault, text_had_no_memory, rescue_failed, rescue_had_no_room, IsRunToEndFault, stopped, not_sealed, end_refused, no_memory_for_report, IsManagerStop, stopped_by_memory, stopped_by_disk, stopped_by_room, stopped_by_slots, stopped_by_image, stopped_by_record, stopped_by_end, MayStop, IsRoundRefusal, not_opened, not_led}

module _ {D : Type 0} (disks : Ghosts D) where
  cause-stops : (entries : List Record) (old new : Journal D) (fault : ManagerFault) → is_broken old ≡ false → IsUnwritten disks entries old new fault → IsManagerStop fault
  cause-stops entries old new _ whole (no_memory_for_all same) = stopped_by_memory
  cause-stops entries old new _ whole (broken_before broken same) = absurd (false≢true (sym whole ∙ broken))
  cause-stops entries old new _ whole (too_few_slots is full same) = stopped_by_slots
  cause-stops entries old new _ whole (disk_failed_meanwhile is rises breaks) = stopped_by_disk
  cause-stops entries old new _ whole (disk_full_before is slot small breaks) = stopped_by_room

  refused-stops : (refused : List Record) (old manager : Managed D) (fault : ManagerFault) → is_broken old.journal ≡ false
      → AreRefused disks refused old manager fault → IsManagerStop fault
  refused-stops refused old manager fault whole r = cause-stops refused r.then_was.journal manager.journal fault (r.counts.whole ∙ whole) r.cause

  drive-stops : (before now : ℕ) (old manager : Managed D) (refused : List Record) (fault : DriveFault) → is_broken old.journal ≡ false
      → IsDriveFault disks before now old manager refused fault → MayStop fault
  drive-stops before now old manager _ _ whole (no_memory_for_child rises) = tt
  drive-stops before now old manager _ _ whole (no_ending_logged rises) = tt
  drive-stops before now old manager _ _ whole (no_memory_for_command still) = tt
  drive-stops before now old manager _ _ whole (run_halted still) = tt
  drive-stops before now old manager _ _ whole (no_memory_for_round still) = stopped_by_memory
  drive-stops before now old manager _ _ whole (records_refused {refused = refused} {fault = fault} still r) = refused-stops refused old manager fault whole r

seal-stops : {R : Type 0} (disks : Ghosts R) (plan : Plan) (past : List Record) (disk left : R) (fault : ManagerFault) → IsSealFault disks plan past disk left fault → IsManagerStop fault
seal-stops disks plan past disk left _ (text_had_no_memory same) = stopped_by_memory
seal-stops disks plan past disk left _ (rescue_failed rises) = stopped_by_disk
seal-stops disks plan past disk left _ (rescue_had_no_room small) = stopped_by_room

begin-stops : {D : Type 0} (disks : Ghosts D) (slots : ℕ) (old new : D) (fault : ManagerFault) → IsBeginFault disks slots old new fault → IsManagerStop fault
begin-stops disks slots old new _ (begin_failed rises) = stopped_by_disk
begin-stops disks slots old new _ (begin_had_no_room small) = stopped_by_room
begin-stops disks slots old new _ (begin_had_no_slot zero same) = stopped_by_slots
begin-stops disks slots old new _ begin_had_no_memory = stopped_by_memory
begin-stops disks slots old new _ (begun_before fault is dishonest) = stopped_by_image fault is

module _ {D R : Type 0} (disks : Ghosts D) (rescues : Ghosts R) (before now : ℕ) (plan : Plan) (slots : ℕ) (limits : Limits)
    (may : Telling) (call_log later_log : List Call) (disk left : D) (rescue : R) (rest : Option R) where
  recovery-stops : (fault : ManagerFault) → IsOpeningFault disks plan slots GoOn disk left fault → IsManagerStop fault
  recovery-stops _ (recovery_failed rises) = stopped_by_disk
  recovery-stops _ (no_journal fault is reads) = stopped_by_image fault is
  recovery-stops _ (foreign_record slot is) = stopped_by_record slot
  recovery-stops _ (run_finished is) = stopped_by_end
  recovery-stops _ recovery_had_no_memory = stopped_by_memory
  recovery-stops _ (no_slot_for_life is) = stopped_by_slots
  recovery-stops _ (no_room_for_life count below small is) = stopped_by_room

  opening-stops : (start : Start) (fault : ManagerFault) → IsOpeningFault disks plan slots start disk left fault → IsManagerStop fault
  opening-stops (Begin used next) fault why = begin-stops disks slots disk left fault why
  opening-stops GoOn fault why = recovery-stops fault why

  run_to_end-stops : (old manager : Managed D) (fault : DriveFault) → is_broken old.journal ≡ false
      → IsRunToEndFault disks rescues before now may old manager call_log later_log rescue rest fault → MayStop fault
  run_to_end-stops old manager _ whole (stopped {fault = fault} why same) = drive-stops disks before now old manager why.refused fault whole why.cause
  run_to_end-stops old manager _ whole (not_sealed {fault = fault} left is at needs why kept) = seal-stops rescues (plan_of manager) (past_of manager) rescue left fault why
  run_to_end-stops old manager _ whole (end_refused {fault = fault} at why rescued) = refused-stops disks (Finish (exit_status (plan_of manager) (past_of manager)) ∷ []) old manager fault whole why
  run_to_end-stops old manager _ whole (no_memory_for_report ended rescued) = tt

  pub round-stops : (start : Start) (fault : DriveFault)
      → IsRoundRefusal disks rescues before now plan slots start limits may call_log later_log disk left rescue rest fault → MayStop fault
  round-stops start _ (not_opened {fault = fault} same kept why untouched moments) = opening-stops start fault why
  round-stops start _ (not_led {fault = fault} opened manager is same why disks) = run_to_end-stops opened manager fault is.whole why
