-- Stretches of a run, one after another.
use Rattle.std.proofs.Common.{inl, inr, arith, ◌≡◌, ℕ, ◌≤◌, ◌<◌, true, false, Bool, List, [], ◌∷◌, length, Option, Some, None, refl, sym, ap, ◌∙◌, subst}
use Rattle.std.proofs.lemmas.Bool.{false≢true}
use Rattle.event_journal_log.specs.declared.disk.Disk.{Ghosts}
use Rattle.node_machine.specs.declared.Key.{Key}
use Rattle.node_machine.specs.declared.Outcome.{Outcome}
use Rattle.throttles.specs.declared.Limits.{Limits}
use Rattle.run_plan.specs.Plan.{Plan}
use Rattle.node_machine.specs.declared.Record.{Record}
use Rattle.sched_core.specs.Run.{is_lawful, is_over}
use Rattle.sched_core.specs.Ahead.{added, up_to_abort, ends_of, may_follow_all}
use Rattle.event_journal_log.specs.declared.journal.Journal.{Journal}
use Rattle.event_journal_log.specs.Crashes.{CrashesLeave}
use Rattle.event_journal_log.specs.Image.{Header}
use Rattle.event_journal_log.specs.Journal.{is_broken}
use Rattle.event_journal_log.proofs.Moments as moments
use Rattle.recovery_manager.specs.declared.fault.ManagerFault.{ManagerFault}
use Rattle.recovery_manager.specs.Batched.{ReadsEither, IsUnwritten, IsBatchRefusal, all_over, may_not_follow_all, not_written}
use Rattle.recovery_manager.specs.Managed.{Managed, plan_of, past_of, disk_of, ReadsJournal, KeepsDisk}
use Rattle.job_starter_drive.specs.declared.Call.{Call}
use Rattle.job_starter_drive.specs.declared.driving.DriveFault.{DriveFault}
use Rattle.job_starter_drive.specs.declared.driving.DriveFault.TheVariants as drives
use Rattle.job_starter_drive.specs.Calls.{AllowsNoMore, AsksForHalt, Telling}
use Rattle.job_starter_drive.specs.Causes.{IsDriveFault, records_refused}
use Rattle.job_starter_drive.specs.Drives.{most_at_once, Standing, At, at_rest, drive_records, calls_of, limits_of, IsStep, ends_recorded, Goes, no_step, one_more, IsStoppedAt, end_refused}
use Rattle.job_starter_drive.specs.Moments.{IsOlderPart, IsMore, MayHold, MayStand, IsMomentFrom, IsLastFrom, AtAnyMoment, StaysAcknowledged, CountsOn}
use Rattle.job_starter_drive.proofs.CallImages.{ReadsBy}
use Rattle.job_starter_drive.specs.Stretches.{IsStretch, IsCutShort}
use Rattle.job_starter_drive.proofs.Cuts.{older-self, older-is, step-records, goes-records, goes-calls}
use Rattle.job_starter_drive.proofs.Disks.{keeps_on, keeps_still, counts_on, counts_still}
use Rattle.job_starter_drive.proofs.Images.{still, standing_call, refused_call, refused_stays, on_unless, may-older, more-added, moment_at, last_at, moment_grows, moment_on, last_on, at_end, at_ease}
use Rattle.job_starter_drive.proofs.Steps.{fault-before}
use Rattle.job_starter_drive.proofs.Walks.{allows-self, allows-then, goes-asked, goes-then}

-- a disk, and what holds of every disk
module _ {D : Type 0} (disks : Ghosts D) where
  abbrev pub Stretch : Limits → Plan → Telling → Telling → ℕ → ℕ → Managed D → Managed D → Standing → Standing → Type 0
  Stretch limits plan may may' before now old new from to = IsStretch disks limits plan may may' before now old new from to

  abbrev pub Cut : Limits → Plan → Telling → Telling → ℕ → ℕ → Managed D → Managed D → Standing → List Call → DriveFault → Type 0
  Cut limits plan may may' before now old new from last fault = IsCutShort disks limits plan may may' before now old new from last fault

  -- of the same limits and plan, stated otherwise
  pub stretch-at : (limits limits' : Limits) → limits' ≡ limits → (plan plan' : Plan) → plan' ≡ plan → (may may' : Telling) (before now : ℕ) (old new : Managed D) (from to : Standing)
      → Stretch limits' plan' may may' before now old new from to → Stretch limits plan may may' before now old new from to
  stretch-at limits limits' same_limits plan plan' same_plan may may' before now old new from to s =
      subst (λ (l : Limits). Stretch l plan may may' before now old new from to) same_limits
      (subst (λ (p : Plan). Stretch limits' p may may' before now old new from to) same_plan s)

  pub cut-at : (limits limits' : Limits) → limits' ≡ limits → (plan plan' : Plan) → plan' ≡ plan → (may may' : Telling) (before now : ℕ) (old new : Managed D) (from : Standing) (last : List Call) (fault : DriveFault)
      → Cut limits' plan' may may' before now old new from last fault → Cut limits plan may may' before now old new from last fault
  cut-at limits limits' same_limits plan plan' same_plan may may' before now old new from last fault s =
      subst (λ (l : Limits). Cut l plan may may' before now old new from last fault) same_limits
      (subst (λ (p : Plan). Cut limits' p may may' before now old new from last fault) same_plan s)

  module _ (limits : Limits) (plan : Plan) (may may' may'' : Telling) (before between now : ℕ) (old mid new : Managed D) (from via : Standing)
      (first : Stretch limits plan may may' before between old mid from via) where
    -- one stretch after another
    pub stretch-then : (to : Standing) → Stretch limits plan may' may'' between now mid new via to → Stretch limits plan may may'' before now old new from to
    stretch-then to second = record {
      plan_is = second.plan_is;
      limits_are = second.limits_are;
      here = second.here;
      steps = goes-then limits plan may may' first.allows_no_more from via to first.steps second.steps;
      any_moment = λ h header was.
          moments.joined disks (disk_of old) (disk_of mid) (disk_of new) (IsMomentFrom limits plan may from None (drive_records to) (calls_of to) header)
          (moments.weaker disks (disk_of old) (disk_of mid) (IsMomentFrom limits plan may from None (drive_records via) (calls_of via) header) (IsMomentFrom limits plan may from None (drive_records to) (calls_of to) header)
          (moment_grows limits plan may from header None (drive_records via) (calls_of via) (drive_records to) (calls_of to)
          (goes-records limits plan may' via to second.steps) (goes-calls limits plan may' via to second.steps)) (first.any_moment h header was))
          (moments.weaker disks (disk_of mid) (disk_of new) (IsMomentFrom limits plan may' via None (drive_records to) (calls_of to) header) (IsMomentFrom limits plan may from None (drive_records to) (calls_of to) header)
          (moment_on limits plan may from header may' via first.allows_no_more first.steps None (drive_records to) (calls_of to))
          (second.any_moment (first.disk.keeps h) header (first.acknowledged h header was)));
      acknowledged = λ h header was. second.acknowledged (first.disk.keeps h) header (first.acknowledged h header was);
      disk = keeps_on disks old mid new first.disk second.disk;
      counts = counts_on old mid new first.counts second.counts;
      unrefused = second.unrefused ∙ first.unrefused;
      allows_no_more = allows-then may may' may'' first.allows_no_more second.allows_no_more;
    }

    -- and one that was cut short
    pub stretch-cut : (last : List Call) (fault : DriveFault) → Cut limits plan may' may'' between now mid new via last fault → Cut limits plan may may'' before now old new from last fault
    stretch-cut last fault second = record {
      plan_is = second.plan_is;
      limits_are = second.limits_are;
      keys = second.keys;
      owed = second.owed;
      steps = goes-then limits plan may may' first.allows_no_more from via (At (past_of new) last second.keys second.owed) first.steps second.steps;
      refused = second.refused;
      stop = second.stop;
      any_moment = λ h header was.
          moments.joined disks (disk_of old) (disk_of mid) (disk_of new) (IsMomentFrom limits plan may from (Some fault) (past_of new) last header)
          (moments.weaker disks (disk_of old) (disk_of mid) (IsMomentFrom limits plan may from None (drive_records via) (calls_of via) header) (IsMomentFrom limits plan may from (Some fault) (past_of new) last header)
          (moment_grows limits plan may from header (Some fault) (drive_records via) (calls_of via) (past_of new) last
          (goes-records limits plan may' via (At (past_of new) last second.keys second.owed) second.steps) (goes-calls limits plan may' via (At (past_of new) last second.keys second.owed) second.steps))
          (first.any_moment h header was))
          (moments.weaker disks (disk_of mid) (disk_of new) (IsMomentFrom limits plan may' via (Some fault) (past_of new) last header) (IsMomentFrom limits plan may from (Some fault) (past_of new) last header)
          (moment_on limits plan may from header may' via first.allows_no_more first.steps (Some fault) (past_of new) last)
          (second.any_moment (first.disk.keeps h) header (first.acknowledged h header was)));
      left = λ h header was image is.
          last_on limits plan may from header may' via first.allows_no_more first.steps (Some fault) (past_of new) last image
          (second.left (first.disk.keeps h) header (first.acknowledged h header was) image is);
      acknowledged = on_unless (Some fault) (StaysAcknowledged disks mid new) (StaysAcknowledged disks old new)
          (λ later h header was. later (first.disk.keeps h) header (first.acknowledged h header was)) second.acknowledged;
      disk = keeps_on disks old mid new first.disk second.disk;
      later = (let later = second.later in let same = first.unrefused in omega (arith, later, same));
      cause = fault-before disks before between now old mid new second.refused fault first.unrefused first.disk first.counts second.cause;
      allows_no_more = allows-then may may' may'' first.allows_no_more second.allows_no_more;
    }

  -- by the limits and the plan that the manager has then
  module _ (limits : Limits) (plan : Plan) (may may' may'' : Telling) (before between now : ℕ) (old mid new : Managed D) (from via : Standing)
      (first : Stretch limits plan may may' before between old mid from via) where
    pub stretch-on : (to : Standing) → Stretch (limits_of mid) (plan_of mid) may' may'' between now mid new via to → Stretch limits plan may may'' before now old new from to
    stretch-on to second =
        stretch-then limits plan may may' may'' before between now old mid new from via first to
        (stretch-at limits (limits_of mid) first.limits_are plan (plan_of mid) first.plan_is may' may'' between now mid new via to second)

    pub cut-on : (last : List Call) (fault : DriveFault) → Cut (limits_of mid) (plan_of mid) may' may'' between now mid new via last fault → Cut limits plan may may'' before now old new from last fault
    cut-on last fault second =
        stretch-cut limits plan may may' may'' before between now old mid new from via first last fault
        (cut-at limits (limits_of mid) first.limits_are plan (plan_of mid) first.plan_is may' may'' between now mid new via last fault second)

  -- a stretch to the records that the manager has
  pub stretch-here : (limits : Limits) (plan : Plan) (may may' : Telling) (before now : ℕ) (old new : Managed D) (from : Standing) (past : List Record) (call_log : List Call) (keys : List Key) (owed : List (Key × Outcome))
      → Stretch limits plan may may' before now old new from (At past call_log keys owed) → Stretch limits plan may may' before now old new from (At (past_of new) call_log keys owed)
  stretch-here limits plan may may' before now old new from past call_log keys owed s =
      subst (λ (l : List Record). Stretch limits plan may may' before now old new from (At l call_log keys owed)) (sym s.here) s

  module _ (only_now : (disk : D) (c : List ℕ) → disks.honest disk → disks.left_since disk (disks.moment disk) c → disks.may_leave disk c)
      (limits : Limits) (plan : Plan) (may may' : Telling) (before now : ℕ) (manager : Managed D) (from : Standing)
      (plan_is : plan_of manager ≡ plan) (limits_are : limits_of manager ≡ limits) (lawful : is_lawful plan (past_of manager) ≡ true)
      (allows_no_more : AllowsNoMore may may') where
    -- steps by which nothing is written
    pub stretch-still : (to : Standing) → past_of manager ≡ drive_records to → Goes limits plan may from to → now ≡ before
        → Stretch limits plan may may' before now manager manager from to
    stretch-still to here steps same = record {
      plan_is = plan_is;
      limits_are = limits_are;
      here = here;
      steps = steps;
      any_moment = λ h header was.
          still disks only_now manager (disk_of manager) header (IsMomentFrom limits plan may from None (drive_records to) (calls_of to) header) refl h was
          (moment_at limits plan may from header to None (drive_records to) (calls_of to) (disks.seen (disk_of manager)) steps
          (subst (λ (l : List Record). is_lawful plan l ≡ true) here lawful) (older-self (drive_records to)) (older-self (calls_of to))
          (subst (λ (l : List Record). ReadsJournal header l (disks.seen (disk_of manager))) here was.reads));
      acknowledged = λ h header was. was;
      disk = keeps_still disks manager;
      counts = counts_still manager;
      unrefused = same;
      allows_no_more = allows_no_more;
    }

    -- the starter was asked for a halt
    pub stretch-asked : (past : List Record) (call_log later_log : List Call) → past_of manager ≡ past → from ≡ at_rest past call_log → AsksForHalt may call_log later_log → now ≡ before
        → Stretch limits plan may may' before now manager manager from (at_rest past later_log)
    stretch-asked past call_log later_log here is asked same =
        stretch-still (at_rest past later_log) here
        (subst (λ (s : Standing). Goes limits plan may s (at_rest past later_log)) (sym is) (goes-asked limits plan may past call_log later_log asked)) same

    -- a fault by which nothing is written
    pub cut-still : (keys : List Key) (owed : List (Key × Outcome)) (last : List Call) (fault : DriveFault) → Goes limits plan may from (At (past_of manager) last keys owed)
        → IsStoppedAt limits plan fault (At (past_of manager) last keys owed) [] → before ≤ now → IsDriveFault disks before now manager manager [] fault
        → Cut limits plan may may' before now manager manager from last fault
    cut-still keys owed last fault steps stop later cause = record {
      plan_is = plan_is;
      limits_are = limits_are;
      keys = keys;
      owed = owed;
      steps = steps;
      refused = [];
      stop = stop;
      any_moment = λ h header was.
          still disks only_now manager (disk_of manager) header (IsMomentFrom limits plan may from (Some fault) (past_of manager) last header) refl h was
          (moment_at limits plan may from header (At (past_of manager) last keys owed) (Some fault) (past_of manager) last (disks.seen (disk_of manager)) steps
          lawful (inl (older-self (past_of manager))) (older-self last) was.reads);
      left = λ h header was image is.
          last_at limits plan may from header (At (past_of manager) last keys owed) (Some fault) (past_of manager) last image steps
          lawful (inl (older-self (past_of manager))) (older-self last) (older-self (past_of manager)) (at_ease disks header manager image was is);
      acknowledged = inr (λ h header was. was);
      disk = keeps_still disks manager;
      later = later;
      cause = cause;
      allows_no_more = allows_no_more;
    }

  -- a call of the manager that records
  module _ (only_now : (disk : D) (c : List ℕ) → disks.honest disk → disks.left_since disk (disks.moment disk) c → disks.may_leave disk c)
      (limits : Limits) (plan : Plan) (may : Telling) (count : ℕ) (old new : Managed D) (call_log : List Call) (keys : List Key) (owed : List (Key × Outcome)) (to : Standing)
      (plan_is : plan_of new ≡ plan) (limits_are : limits_of new ≡ limits) (calls_are : calls_of to ≡ call_log)
      (lawful : is_lawful plan (past_of old) ≡ true) (lawful_then : is_lawful plan (drive_records to) ≡ true)
      (step : IsStep limits plan may (At (past_of old) call_log keys owed) to)
      (any : disks.honest (disk_of old) → is_broken old.journal ≡ false → (header : Header) → ReadsJournal header (past_of old) (disks.seen (disk_of old))
      → CrashesLeave disks (disk_of old) (disk_of new) (ReadsEither header (past_of old) (drive_records to)))
      (broken : is_broken old.journal ≡ true → new.journal ≡ old.journal) (disk : KeepsDisk disks old.journal new.journal) where
    abbrev pub from : Standing
    from = At (past_of old) call_log keys owed

    steps : Goes limits plan may from to
    steps = one_more no_step step

    at-moment : (fault : Option DriveFault) (kept : List Record) (header : Header) (image : List ℕ)
        → IsOlderPart (past_of old) kept → (MayStand fault → MayHold fault kept (drive_records to))
        → ReadsBy fault header (past_of old) (drive_records to) image → IsMomentFrom limits plan may from fault kept call_log header image
    at-moment fault kept header image older more (inl reads) =
        moment_at limits plan may from header from fault kept call_log image no_step lawful (may-older fault kept (past_of old) older) (older-self call_log) reads
    at-moment fault kept header image older more (inr reads) =
        moment_at limits plan may from header to fault kept call_log image steps lawful_then (more reads.0) (older-is (calls_of to) call_log (sym calls_are)) reads.1

    pub stretch-recorded : past_of new ≡ drive_records to → StaysAcknowledged disks old new → CountsOn old new
        → Stretch limits plan may may count count old new from to
    stretch-recorded there acknowledged counts = record {
      plan_is = plan_is;
      limits_are = limits_are;
      here = there;
      steps = steps;
      any_moment = λ h header was.
          moments.weaker disks (disk_of old) (disk_of new) (ReadsBy None header (past_of old) (drive_records to)) (IsMomentFrom limits plan may from None (drive_records to) (calls_of to) header)
          (λ image reads. subst (λ (l : List Call). IsMomentFrom limits plan may from None (drive_records to) l header image) (sym calls_are)
          (at-moment None (drive_records to) header image (step-records limits plan may from to step) (λ stands. older-self (drive_records to)) reads))
          (standing_call disks only_now old new (drive_records to) any broken None tt h header was);
      acknowledged = acknowledged;
      disk = disk;
      counts = counts;
      unrefused = refl;
      allows_no_more = allows-self may;
    }

    -- it was refused
    pub cut-recorded : (counts_now : (disk : D) (t : ℕ) (c : List ℕ) → disks.honest disk → t ≤ disks.moment disk → disks.may_leave disk c → disks.left_since disk t c)
        → (entries : List Record) (fault : ManagerFault) → IsStoppedAt limits plan (drives.Manager fault) from entries → past_of new ≡ past_of old
        → length entries ≤ most_at_once → drive_records to ≡ added (past_of old) entries → may_follow_all plan (past_of old) entries ≡ true
        → IsUnwritten disks entries old.journal new.journal fault → Cut limits plan may may count count old new from call_log (drives.Manager fault)
    cut-recorded counts_now entries fault stop kept few is follows why = record {
      plan_is = plan_is;
      limits_are = limits_are;
      keys = keys;
      owed = owed;
      steps = subst (λ (l : List Record). Goes limits plan may from (At l call_log keys owed)) (sym kept) no_step;
      refused = entries;
      stop = subst (λ (l : List Record). IsStoppedAt limits plan (drives.Manager fault) (At l call_log keys owed) entries) (sym kept) stop;
      any_moment = λ h header was.
          moments.weaker disks (disk_of old) (disk_of new) (ReadsBy (Some (drives.Manager fault)) header (past_of old) (drive_records to))
          (IsMomentFrom limits plan may from (Some (drives.Manager fault)) (past_of new) call_log header)
          (λ image reads. at-moment (Some (drives.Manager fault)) (past_of new) header image (older-is (past_of old) (past_of new) kept) (λ stands. inr (stands, more)) reads)
          (tried h header was);
      left = λ h header was image is_left.
          at-last header image
          (at_end disks counts_now (disk_of old) (disk_of new) (ReadsBy (Some (drives.Manager fault)) header (past_of old) (drive_records to))
          (disk.keeps h) (tried h header was) image is_left);
      acknowledged = refused_stays disks only_now old new entries fault kept why;
      disk = disk;
      later = omega arith;
      cause = records_refused refl (record {
        then_was = old;
        same = sym kept;
        disk = keeps_still disks old;
        counts = counts_still old;
        lawful = (λ j. may_follow_all (plan_is j) (kept j) entries) ∙ follows;
        cause = why;
      });
      allows_no_more = allows-self may;
    }
      where
        more : IsMore (past_of new) (drive_records to)
        more = subst (IsMore (past_of new)) (ap (λ (l : List Record). added l entries) kept ∙ sym is) (more-added (past_of new) entries few)

        tried : AtAnyMoment disks old new (λ header. ReadsBy (Some (drives.Manager fault)) header (past_of old) (drive_records to))
        tried = refused_call disks only_now old new (drive_records to) any broken entries fault why

        at-last : (header : Header) (image : List ℕ) → ReadsBy (Some (drives.Manager fault)) header (past_of old) (drive_records to) image
            → IsLastFrom limits plan may from (Some (drives.Manager fault)) (past_of new) call_log header image
        at-last header image (inl reads) =
            last_at limits plan may from header from (Some (drives.Manager fault)) (past_of new) call_log image no_step lawful (inl (older-is (past_of old) (past_of new) kept)) (older-self call_log)
            (older-is (past_of new) (past_of old) (sym kept)) reads
        at-last header image (inr reads) =
            last_at limits plan may from header to (Some (drives.Manager fault)) (past_of new) call_log image steps lawful_then (inr (reads.0, more)) (older-is (calls_of to) call_log (sym calls_are))
            (more.added, more.is) reads.1

-- why records that may follow were refused
pub unwritten : {D : Type 0} (disks : Ghosts D) (past : List Record) (fits : Bool) (entries : List Record) (old new : Journal D) (fault : ManagerFault)
    → is_over past ≡ false → fits ≡ true → IsBatchRefusal disks past fits entries old new fault → IsUnwritten disks entries old new fault
unwritten disks past fits entries old new _ going follows (all_over over same) = absurd (false≢true (sym going ∙ over))
unwritten disks past fits entries old new _ going follows (may_not_follow_all on none same) = absurd (false≢true (sym none ∙ follows))
unwritten disks past fits entries old new _ going follows (not_written on fit why) = why

-- what is owed is recorded
pub settle-step : (limits : Limits) (plan : Plan) (may : Telling) (past : List Record) (call_log : List Call) (owed : List (Key × Outcome)) → 0 < length owed
    → IsStep limits plan may (At past call_log [] owed) (At (added past (up_to_abort plan past (ends_of owed))) call_log [] [])
settle-step limits plan may past call_log [] some = absurd (omega (arith, some))
settle-step limits plan may past call_log (end ∷ owed) some = ends_recorded

pub settle-stop : (limits : Limits) (plan : Plan) (fault : ManagerFault) (past : List Record) (call_log : List Call) (owed : List (Key × Outcome)) → 0 < length owed
    → IsStoppedAt limits plan (drives.Manager fault) (At past call_log [] owed) (up_to_abort plan past (ends_of owed))
settle-stop limits plan fault past call_log [] some = absurd (omega (arith, some))
settle-stop limits plan fault past call_log (end ∷ owed) some = end_refused
