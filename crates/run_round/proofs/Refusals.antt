-- Why a run isn't led to its end.
use Rattle.std.proofs.Common.{arith, ◌≡◌, ℕ, true, false, inl, inr, List, [], ◌∷◌, length, refl, sym, ◌∙◌, subst}
use Rattle.std.specs.Prelude.{IsTrue, IfErr, Result, Ok, Err, Option, Some, None}
use Rattle.std.proofs.lemmas.Bool.{and_parts, and_from, false≢true, not-true}
use Rattle.event_journal_log.specs.declared.disk.Disk.{Ghosts}
use Rattle.run_plan.specs.Plan.{Plan}
use Rattle.throttles.specs.declared.Limits.{Limits}
use Rattle.node_machine.specs.declared.Record.{Record}
use Rattle.node_machine.specs.declared.Record.TheVariants.{Finish}
use Rattle.sched_core.specs.Run.{is_over, is_open, may_follow, exit_status, needs_rescue}
use Rattle.sched_core.specs.declared.Choice.TheVariants as choices
use Rattle.sched_core.specs.Choices.{IsChoice}
use Rattle.event_journal_log.specs.declared.journal.Journal.{Journal}
use Rattle.recovery_manager.specs.Batched.{IsUnwritten, no_memory_for_all, broken_before, too_few_slots, disk_failed_meanwhile, disk_full_before}
use Rattle.recovery_manager.specs.Managed as refusals
use Rattle.recovery_manager.specs.Managed.{Managed, plan_of, past_of, IsRefusal, KeepsDisk}
use Rattle.recovery_manager.specs.Seal.{OnDisk, IsFinishFault, IsRescueFault, run_over, not_now, no_memory, disk_failed, disk_full, may_end, needs_rescue_now}
use Rattle.recovery_manager.specs.declared.fault.ManagerFault.{ManagerFault}
use Rattle.job_starter_drive.specs.Causes.{AreRefused}
use Rattle.job_starter_drive.specs.Moments.{CountsOn}
use Rattle.run_round.specs.RunToEnd.{StaysHonest}
use Rattle.run_round.specs.Causes.{IsSealFault, text_had_no_memory, rescue_failed, rescue_had_no_room}

open-going : (past : List Record) → is_open past ≡ true → is_over past ≡ false
open-going [] h = absurd (false≢true h)
open-going (newest ∷ past) h = not-true (is_over (newest ∷ past)) h

-- a run that may end is not over
pub ends-going : (plan : Plan) (past : List Record) → may_end plan past ≡ true → is_over past ≡ false
unfolding may_follow
ends-going plan past h = open-going past (and_parts _ _ (and_parts _ _ (and_parts _ _ h).0).0).0

-- why the rescue file of a run that may end and needs one isn't written
pub seal-fault : {R : Type 0} (disks : Ghosts R) (plan : Plan) (past : List Record) (old new : R) {fault : ManagerFault}
    → may_end plan past ≡ true → needs_rescue plan past ≡ true → IsRescueFault disks plan past old new fault
    → IsTrue (needs_rescue_now plan past) × IsSealFault disks plan past old new fault
seal-fault disks plan past old new ends needs (run_over over same) = absurd (false≢true (sym (ends-going plan past ends) ∙ over))
seal-fault disks plan past old new ends needs (not_now going unneeded same) = absurd (false≢true (sym unneeded ∙ and_from _ _ ends needs))
seal-fault disks plan past old new ends needs (no_memory same) = (and_from _ _ ends needs, text_had_no_memory same)
seal-fault disks plan past old new ends needs (disk_failed rises) = (and_from _ _ ends needs, rescue_failed rises)
seal-fault disks plan past old new ends needs (disk_full small) = (and_from _ _ ends needs, rescue_had_no_room small)

-- what is to be done next is to finish, so that the run may end, in the plan of the manager then
pub ends-now : (limits : Limits) (plan plan' : Plan) → plan' ≡ plan → (past : List Record) (status : ℕ)
    → IsChoice limits plan past (choices.Finish status) → may_follow plan past (Finish status) ≡ true → may_end plan' past ≡ true
ends-now limits plan plan' same past status chosen may =
    subst (λ (p : Plan). may_end p past ≡ true) (sym same) (subst (λ (n : ℕ). may_follow plan past (Finish n) ≡ true) chosen.2 may)

-- such an end that was refused was not written
pub unwritten-end : {D : Type 0} (disks : Ghosts D) (plan : Plan) (past : List Record) (entry : Record) (old new : Journal D) (fault : ManagerFault)
    → is_over past ≡ false → may_follow plan past entry ≡ true → IsRefusal disks plan past entry old new fault → IsUnwritten disks (entry ∷ []) old new fault
unwritten-end disks plan past entry old new _ going follows (refusals.run_over over same) = absurd (false≢true (sym going ∙ over))
unwritten-end disks plan past entry old new _ going follows (refusals.may_not_follow on none same) = absurd (false≢true (sym none ∙ follows))
unwritten-end disks plan past entry old new _ going follows (refusals.no_memory may same) = no_memory_for_all same
unwritten-end disks plan past entry old new _ going follows (refusals.journal_broken may is same) = broken_before is same
unwritten-end disks plan past entry old new _ going follows (refusals.no_slot may whole full same) = too_few_slots whole (omega (arith, full)) same
unwritten-end disks plan past entry old new _ going follows (refusals.disk_failed may whole rises breaks) = disk_failed_meanwhile whole rises breaks
unwritten-end disks plan past entry old new _ going follows (refusals.disk_full may whole slot small breaks) = disk_full_before whole (omega (arith, slot)) (omega (arith, small)) breaks

-- the end of such a run, whose seal is of its records, is refused as a record alone
pub end-refusal : {D : Type 0} (disks : Ghosts D) (plan : Plan) (past : List Record) (count : ℕ) (old new : Journal D) (fault : ManagerFault)
    → may_end plan past ≡ true → count ≡ length past → IsFinishFault disks plan past count old new fault → IsUnwritten disks (Finish (exit_status plan past) ∷ []) old new fault
end-refusal disks plan past count old new fault ends many (inl why) =
    unwritten-end disks plan past (Finish (exit_status plan past)) old new fault (ends-going plan past ends) ends why
end-refusal disks plan past count old new fault ends many (inr stale) = absurd (stale.1 many)

pub end-refused : {D : Type 0} (disks : Ghosts D) (old mid new : Managed D) (fault : ManagerFault)
    → KeepsDisk disks old.journal mid.journal → CountsOn old mid
    → plan_of new ≡ plan_of mid → past_of new ≡ past_of mid → may_end (plan_of mid) (past_of mid) ≡ true
    → IsUnwritten disks (Finish (exit_status (plan_of mid) (past_of mid)) ∷ []) mid.journal new.journal fault
    → AreRefused disks (Finish (exit_status (plan_of new) (past_of new)) ∷ []) old new fault
end-refused disks old mid new fault keeps counts same kept ends why = record {
  then_was = mid;
  same = sym kept;
  disk = keeps;
  counts = counts;
  lawful = and_from _ _ ((λ j. may_follow (same j) (kept j) (Finish (exit_status (same j) (kept j)))) ∙ ends) refl;
  cause = subst (λ (l : List Record). IsUnwritten disks l mid.journal new.journal fault) (λ j. Finish (exit_status (sym same j) (sym kept j)) ∷ []) why;
}

-- what is known of one fault makes another thing known of it
pub of-fault : {X E : Type 0} (P Q : E → Type 0) (result : Result X E) → ((fault : E) → P fault → Q fault) → IfErr result P → IfErr result Q
of-fault P Q (Ok x) more is = tt
of-fault P Q (Err fault) more is = more fault is

-- a rescue file's disk that was written is honest as it was
pub honest-disk : {R : Type 0} (rescues : Ghosts R) (P : R → Type 0) (disk : Option R) → OnDisk (λ d. rescues.honest d × P d) disk → StaysHonest rescues disk
honest-disk rescues P (Some disk) is = is.0
honest-disk rescues P None is = tt
