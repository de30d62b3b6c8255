-- A rehearsal that is stopped for want of slots has too many records.
use Rattle.std.proofs.Common.{◌≡◌, ◌∙◌, ◌⊎◌, ℕ, ◌+◌, ◌<◌, List, [], ◌∷◌, Option, refl, sym, ap, subst, inl, inr, arith}
use Rattle.std.specs.Prelude.{IsTrue}
use Rattle.event_journal_log.specs.declared.disk.Disk.{Ghosts}
use Rattle.node_machine.specs.OutcomeTable.{Entry, SameOutcomes}
use Rattle.node_machine.specs.declared.Record.{Record}
use Rattle.node_machine.specs.declared.Record.TheVariants.{Life, Finish}
use Rattle.throttles.specs.declared.Limits.{Limits}
use Rattle.run_plan.specs.Plan.{Plan}
use Rattle.sched_core.specs.Run.{exit_status}
use Rattle.sched_core.specs.Ahead.{added, may_follow_all}
use Rattle.event_journal_log.specs.Groups.{slots_of, slots_in, records_in}
use Rattle.event_journal_log.specs.Journal.{journal_count, journal_limit}
use Rattle.event_journal_log.specs.declared.journal.Journal.{Journal}
use Rattle.recovery_manager.specs.declared.fault.ManagerFault.{ManagerFault}
use Rattle.recovery_manager.specs.Batched.{IsUnwritten, no_memory_for_all, broken_before, too_few_slots, disk_failed_meanwhile, disk_full_before}
use Rattle.recovery_manager.specs.Managed.{Managed, plan_of, past_of}
use Rattle.job_starter_drive.specs.declared.Call.{Call}
use Rattle.job_starter_drive.specs.Calls.{Telling}
use Rattle.job_starter_drive.specs.declared.driving.DriveFault.{DriveFault}
use Rattle.job_starter_drive.specs.declared.driving.DriveFault.TheVariants as drives
use Rattle.job_starter_drive.specs.Causes.{AreRefused, IsDriveFault, no_memory_for_child, no_ending_logged, no_memory_for_command, no_memory_for_round, run_halted, records_refused}
use Rattle.job_starter_drive.specs.Drives.{At, at_rest, limits_of, no_step, IsStopped}
use Rattle.job_starter_drive.specs.Scripts.{IsScripted}
use Rattle.job_starter_drive.proofs.Walks.{goes-then}
use Rattle.dag_main_rehearse.specs.Timed.{Timings, IsTimed}
use Rattle.run_round.specs.RunToEnd.{IsAtEnd}
use Rattle.run_round.specs.Causes.{IsSealFault, text_had_no_memory, rescue_failed, rescue_had_no_room, IsRunToEndFault, stopped, not_sealed, end_refused, no_memory_for_report}
use Rattle.dag_main_check.specs.declared.fault.RunFault.{RunFault}
use Rattle.dag_main_check.specs.declared.fault.RunFault.TheVariants.{InManager, Memory}
use Rattle.dag_main_rehearse.specs.TooLong.{most_slots, no_slot, IsFullAt, full_on_the_way, full_at_the_end, HasNoSlotsFor, HasTooManyRecords, IsTooLong, IsTableRunFault, has_too_many_records, running_had_no_memory}
use Rattle.dag_main_rehearse.proofs.Rehearsals.{same-script}

-- a run from these records and calls on came to others, where it was stopped for want of slots, or to its end, with these records to follow
abbrev Stop : Limits → Plan → Telling → List Record → List Call → List Record → List Record → Type 0
Stop limits plan may begun told past refused =
    ((calls : List Call) × IsStopped limits plan may begun told (drives.Manager no_slot) refused past calls)
    ⊎ ((calls : List Call) × IsAtEnd limits plan may begun told past calls × (refused ≡ Finish (exit_status plan past) ∷ []))

-- a run that has too many records, in the words of the calls
pub record Full (limits : Limits) (plan : Plan) (may : Telling) (begun : List Record) (told : List Call) : Type 0 where
  pub past : List Record
  pub refused : List Record
  pub stop : Stop limits plan may begun told past refused
  pub follow : IsTrue (may_follow_all plan past refused)
  pub slots : HasNoSlotsFor past refused

-- the manager's fault is one
manager-fault : (fault other : ManagerFault) → drives.Manager fault ≡ drives.Manager other → fault ≡ other
manager-fault fault other same = cc

-- a rescue file is never refused for want of slots
seal-full : {R : Type 0} (disks : Ghosts R) (plan : Plan) (past : List Record) (disk left : R) (fault : ManagerFault)
    → IsSealFault disks plan past disk left fault → fault ≡ no_slot → ⊥
seal-full disks plan past disk left _ (text_had_no_memory same) is = cc
seal-full disks plan past disk left _ (rescue_failed rises) is = cc
seal-full disks plan past disk left _ (rescue_had_no_room small) is = cc

module _ {D : Type 0} (disks : Ghosts D) where
  unwritten-full : (entries : List Record) (old new : Journal D) (fault : ManagerFault) → IsUnwritten disks entries old new fault → fault ≡ no_slot
      → journal_limit old < journal_count old + slots_of entries
  unwritten-full entries old new _ (no_memory_for_all same) is = absurd cc
  unwritten-full entries old new _ (broken_before broken same) is = absurd cc
  unwritten-full entries old new _ (too_few_slots whole full same) is = full
  unwritten-full entries old new _ (disk_failed_meanwhile whole rises breaks) is = absurd cc
  unwritten-full entries old new _ (disk_full_before whole slot small breaks) is = absurd cc

  -- records that were refused so had too few slots, and might have followed
  refused-full : (refused : List Record) (old manager : Managed D) (fault : ManagerFault) → fault ≡ no_slot
      → past_of old ≡ Life ∷ [] → journal_limit old.journal ≡ most_slots → journal_count old.journal ≡ 1
      → AreRefused disks refused old manager fault → HasNoSlotsFor (past_of manager) refused
  refused-full refused old manager fault is begun limit count r =
      let full = unwritten-full refused r.then_was.journal manager.journal fault r.cause is in
      let bound = r.disk.slots ∙ limit in
      let counted = r.counts.count ∙ ap (λ (n : ℕ). n + slots_in r.counts.groups) count in
      record {
        groups = r.counts.groups;
        are = sym r.same ∙ r.counts.are ∙ ap (λ (p : List Record). added p (records_in r.counts.groups)) begun;
        many = omega arith;
      }

  -- and so had those of a run that was stopped so
  drive-full : (before now : ℕ) (old manager : Managed D) (refused : List Record) (fault : DriveFault)
      → past_of old ≡ Life ∷ [] → journal_limit old.journal ≡ most_slots → journal_count old.journal ≡ 1
      → IsDriveFault disks before now old manager refused fault → fault ≡ drives.Manager no_slot
      → IsTrue (may_follow_all (plan_of manager) (past_of manager) refused) × HasNoSlotsFor (past_of manager) refused
  drive-full before now old manager _ _ begun limit count (no_memory_for_child rises) is = absurd cc
  drive-full before now old manager _ _ begun limit count (no_ending_logged rises) is = absurd cc
  drive-full before now old manager _ _ begun limit count (no_memory_for_command still) is = absurd cc
  drive-full before now old manager _ _ begun limit count (no_memory_for_round still) is = absurd cc
  drive-full before now old manager _ _ begun limit count (run_halted still) is = absurd cc
  drive-full before now old manager _ _ begun limit count (records_refused {refused = refused} {fault = fault} still r) is =
      (r.lawful, refused-full refused old manager fault (manager-fault fault no_slot is) begun limit count r)

pub run_to_end-full : {D R : Type 0} (disks : Ghosts D) (rescues : Ghosts R) (before now : ℕ) (may : Telling) (old manager : Managed D) (told heard : List Call) (disk : R) (left : Option R)
    (fault : DriveFault) → past_of old ≡ Life ∷ [] → journal_limit old.journal ≡ most_slots → journal_count old.journal ≡ 1 → plan_of manager ≡ plan_of old
    → IsRunToEndFault disks rescues before now may old manager told heard disk left fault → fault ≡ drives.Manager no_slot
    → Full (limits_of old) (plan_of old) may (past_of old) told
run_to_end-full disks rescues before now may old manager told heard disk left _ begun limit count same (stopped {fault = fault} why rest) is =
    let full = drive-full disks before now old manager why.refused fault begun limit count why.cause is in
    record {
      past = past_of manager;
      refused = why.refused;
      stop = inl (heard, subst (λ (f : DriveFault). IsStopped (limits_of old) (plan_of old) may (past_of old) told f why.refused (past_of manager) heard) is why.stopped);
      follow = subst (λ (p : Plan). IsTrue (may_follow_all p (past_of manager) why.refused)) same full.0;
      slots = full.1;
    }
run_to_end-full disks rescues before now may old manager told heard disk left _ begun limit count same (not_sealed {fault = fault} rest at_left at needs why kept) is =
    absurd (seal-full rescues (plan_of manager) (past_of manager) disk rest fault why (manager-fault fault no_slot is))
run_to_end-full disks rescues before now may old manager told heard disk left _ begun limit count same (end_refused {fault = fault} at why rescued) is =
    let refused = Finish (exit_status (plan_of manager) (past_of manager)) ∷ [] in
    record {
      past = past_of manager;
      refused = refused;
      stop = inr (heard, at, ap (λ (p : Plan). Finish (exit_status p (past_of manager)) ∷ []) same);
      follow = subst (λ (p : Plan). IsTrue (may_follow_all p (past_of manager) refused)) same why.lawful;
      slots = refused-full disks refused old manager fault (manager-fault fault no_slot is) begun limit count why;
    }
run_to_end-full disks rescues before now may old manager told heard disk left _ begun limit count same (no_memory_for_report ended rescued) is = absurd cc

-- a run that began with Life alone
stop-full : (limits : Limits) (plan : Plan) (may : Telling) (past refused : List Record)
    → Stop limits plan may (Life ∷ []) [] past refused → IsFullAt limits plan may past refused
stop-full limits plan may past refused (inl (calls, stopped_so)) = full_on_the_way calls stopped_so
stop-full limits plan may past refused (inr (calls, at, is)) = subst (IsFullAt limits plan may past) (sym is) (full_at_the_end calls at)

whole : (limits : Limits) (plan : Plan) (may : Telling) → Full limits plan may (Life ∷ []) [] → HasTooManyRecords limits plan may
whole limits plan may f = record {
  past = f.past;
  refused = f.refused;
  full = stop-full limits plan may f.past f.refused f.stop;
  follow = f.follow;
  slots = f.slots;
}

-- the same in the words of the calls
pub too-long-by : (limits limits' : Limits) → limits' ≡ limits → (plan plan' own : Plan) → plan' ≡ plan → own ≡ plan
    → (entries entries' : List Entry) → entries' ≡ entries → (places : List ℕ) → places ≡ []
    → (begun : List Record) → begun ≡ Life ∷ [] → (told : List Call) → told ≡ []
    → Full limits' plan' (IsScripted own entries' places) begun told → IsTooLong limits plan entries
too-long-by limits limits' l plan plan' own p o entries entries' e places none begun b told t f =
    whole limits plan (IsScripted plan entries [])
    (subst (λ (x : Limits). Full x plan (IsScripted plan entries []) (Life ∷ []) []) l
    (subst (λ (x : Plan). Full limits' x (IsScripted plan entries []) (Life ∷ []) []) p
    (subst (λ (x : Plan). Full limits' plan' (IsScripted x entries []) (Life ∷ []) []) o
    (subst (λ (x : List Entry). Full limits' plan' (IsScripted own x []) (Life ∷ []) []) e
    (subst (λ (x : List ℕ). Full limits' plan' (IsScripted own entries' x) (Life ∷ []) []) none
    (subst (λ (x : List Record). Full limits' plan' (IsScripted own entries' places) x []) b
    (subst (λ (x : List Call). Full limits' plan' (IsScripted own entries' places) begun x) t f)))))))

-- the same of children that take as long as is said
pub timed-too-long-by : (limits limits' : Limits) → limits' ≡ limits → (plan plan' : Plan) → plan' ≡ plan → (timings timings' : Timings) → timings' ≡ timings
    → (begun : List Record) → begun ≡ Life ∷ [] → (told : List Call) → told ≡ []
    → Full limits' plan' (IsTimed timings') begun told → HasTooManyRecords limits plan (IsTimed timings)
timed-too-long-by limits limits' l plan plan' p timings timings' s begun b told t f =
    whole limits plan (IsTimed timings)
    (subst (λ (x : Limits). Full x plan (IsTimed timings) (Life ∷ []) []) l
    (subst (λ (x : Plan). Full limits' x (IsTimed timings) (Life ∷ []) []) p
    (subst (λ (x : Timings). Full limits' plan' (IsTimed x) (Life ∷ []) []) s
    (subst (λ (x : List Record). Full limits' plan' (IsTimed timings') x []) b
    (subst (λ (x : List Call). Full limits' plan' (IsTimed timings') begun x) t f)))))

-- Entries that say the same outcomes are one script.
module _ (limits : Limits) (plan : Plan) (table entries : List Entry) (same : SameOutcomes table entries) where
  same-full : (past refused : List Record) → IsFullAt limits plan (IsScripted plan table []) past refused → IsFullAt limits plan (IsScripted plan entries []) past refused
  same-full past _ (full_on_the_way {refused = refused} calls s) =
      full_on_the_way calls (record {
        rest = s.rest;
        halted = record {
          keys = s.halted.keys;
          owed = s.halted.owed;
          steps = goes-then limits plan (IsScripted plan entries []) (IsScripted plan table []) (same-script plan table entries same) (at_rest (Life ∷ []) []) (at_rest (Life ∷ []) []) (At past s.rest s.halted.keys s.halted.owed) no_step s.halted.steps;
          stop = s.halted.stop;
        };
        kills = s.kills;
      })
  same-full past _ (full_at_the_end calls at) =
      full_at_the_end calls (record {
        status = at.status;
        steps = goes-then limits plan (IsScripted plan entries []) (IsScripted plan table []) (same-script plan table entries same) (at_rest (Life ∷ []) []) (at_rest (Life ∷ []) []) (at_rest past calls) no_step at.steps;
        chosen = at.chosen;
      })

  pub same-too-long : IsTooLong limits plan table → IsTooLong limits plan entries
  same-too-long long = record {
    past = long.past;
    refused = long.refused;
    full = same-full long.past long.refused long.full;
    follow = long.follow;
    slots = long.slots;
  }

pub told-by : (limits : Limits) (plan : Plan) (entries : List Entry) (fault : DriveFault) (told : RunFault) → (fault ≡ drives.Manager no_slot → IsTooLong limits plan entries)
    → (told ≡ Memory) ⊎ ((fault ≡ drives.Manager no_slot) × (told ≡ InManager no_slot)) → IsTableRunFault limits plan entries told
told-by limits plan entries fault told means (inl is) = subst (IsTableRunFault limits plan entries) (sym is) running_had_no_memory
told-by limits plan entries fault told means (inr (slot, is)) = subst (IsTableRunFault limits plan entries) (sym is) (has_too_many_records (means slot))

-- lack of memory on the way
pub no-memory : (limits : Limits) (plan : Plan) (entries : List Entry) (fault told : RunFault) → told ≡ fault → fault ≡ Memory → IsTableRunFault limits plan entries told
no-memory limits plan entries fault told same is = subst (IsTableRunFault limits plan entries) (sym (same ∙ is)) running_had_no_memory
