-- A round that was opened and led to its end.
use Rattle.std.proofs.Common.{◌≡◌, ◌⊎◌, ℕ, false, List, [], ◌∷◌, Option, None, inl, inr, sym, ap, ◌∙◌, subst}
use Rattle.event_journal_log.specs.declared.disk.Disk.{Ghosts}
use Rattle.throttles.specs.declared.Limits.{Limits}
use Rattle.node_machine.specs.declared.Key.{Key}
use Rattle.node_machine.specs.declared.Outcome.{Outcome}
use Rattle.run_plan.specs.Plan.{Plan}
use Rattle.node_machine.specs.declared.Record.{Record}
use Rattle.node_machine.specs.declared.Record.TheVariants.{Life}
use Rattle.event_journal_log.specs.Crashes.{CrashesLeave}
use Rattle.event_journal_log.specs.Groups.{used_in}
use Rattle.event_journal_log.specs.Image.{Header, groups_in}
use Rattle.event_journal_log.specs.Journal.{is_broken, journal_count}
use Rattle.event_journal_log.proofs.Moments as moments
use Rattle.recovery_manager.specs.Managed.{Managed, plan_of, past_of, disk_of, DiskAgrees, IsAcknowledged}
use Rattle.recovery_manager.specs.Chain.{ReadsForInputs}
use Rattle.recovery_manager.specs.Seal.{IsRescued}
use Rattle.recovery.specs.Recovery.{IsNewLife}
use Rattle.job_starter_drive.specs.declared.Call.{Call}
use Rattle.job_starter_drive.specs.Calls.{Telling}
use Rattle.job_starter_drive.specs.declared.driving.DriveFault.{DriveFault}
use Rattle.job_starter_drive.specs.Drives.{limits_of}
use Rattle.run_round.specs.declared.rounds.Start.{Start}
use Rattle.run_round.specs.declared.rounds.Start.TheVariants.{Begin, GoOn}
use Rattle.run_round.specs.RunToEnd.{IsRunToEnd, DrivesToEnd, StaysHonest}
use Rattle.run_round.specs.Moments.{IsMomentOfLead, IsLastOfLead}
use Rattle.run_round.specs.Rounds.{HasBegun, IsBegunBy, BeginsOn, IsJournaled, IsMomentOfOpening, IsRoundRun, IsRoundOnDisk}
use Rattle.run_round.proofs.Ends.{end-hands}

-- a whole journal of an honest disk counts the slots that are used
pub counts-slots : {D : Type 0} (disks : Ghosts D) (manager : Managed D)
    → DiskAgrees disks (past_of manager) manager.journal → is_broken manager.journal ≡ false → disks.honest (disk_of manager)
    → journal_count manager.journal ≡ used_in (groups_in (disks.seen (disk_of manager)))
counts-slots disks manager agrees whole premise =
    let image = (agrees premise whole).settled.image in
    image.counts ∙ ap used_in (sym image.grouped)

abbrev behind : List Record → List Record
behind [] = []
behind (entry ∷ past) = past

module _ {D R : Type 0} (disks : Ghosts D) (rescues : Ghosts R) (rescue : Option R)
    (start : Start) (limits : Limits) (plan : Plan) (may : Telling) (call_log : List Call) (fault : Option DriveFault) (kept : List Record) (last : List Call)
    (disk left : D) (opened manager : Managed D) where
  -- what is made of the disk by opening a round and leading it
  pub on-disk : limits_of opened ≡ limits → plan_of opened ≡ plan → left ≡ disk_of manager → IsJournaled disks plan opened
      → CrashesLeave disks disk (disk_of opened) (IsMomentOfOpening start plan (disks.may_leave disk) (disks.seen disk))
      → ((header : Header) → IsAcknowledged disks header opened
      → CrashesLeave disks (disk_of opened) (disk_of manager) (IsMomentOfLead rescues rescue (limits_of opened) (plan_of opened) may (past_of opened) call_log fault kept last header))
      → ((header : Header) → IsAcknowledged disks header opened
      → (image : List ℕ) → disks.may_leave (disk_of manager) image → IsLastOfLead rescues rescue (limits_of opened) (plan_of opened) may (past_of opened) call_log fault kept last header image)
      → IsRoundOnDisk disks rescues rescue start limits plan may (past_of opened) call_log fault kept last disk left
  on-disk limits_are plan_is left_is journaled opening leading ending =
      let header = journaled.header in
      let Lead : Limits → Plan → List ℕ → Type 0 = λ l p. IsMomentOfLead rescues rescue l p may (past_of opened) call_log fault kept last header in
      let Last : Limits → Plan → List ℕ → Type 0 = λ l p. IsLastOfLead rescues rescue l p may (past_of opened) call_log fault kept last header in
      let All : List ℕ → Type 0 = λ image. IsMomentOfOpening start plan (disks.may_leave disk) (disks.seen disk) image ⊎ Lead limits plan image in
      let led = subst (λ (l : Limits). CrashesLeave disks (disk_of opened) (disk_of manager) (Lead l plan)) limits_are
      (subst (λ (p : Plan). CrashesLeave disks (disk_of opened) (disk_of manager) (Lead (limits_of opened) p)) plan_is (leading header journaled.acknowledged)) in
      record {
        header = header;
        inputs = journaled.inputs;
        any_moment = subst (λ (d : D). CrashesLeave disks disk d All) (sym left_is)
            (moments.joined disks disk (disk_of opened) (disk_of manager) All
            (moments.weaker disks disk (disk_of opened) (IsMomentOfOpening start plan (disks.may_leave disk) (disks.seen disk)) All (λ image m. inl m) opening)
            (moments.weaker disks (disk_of opened) (disk_of manager) (Lead limits plan) All (λ image m. inr m) led));
        at_the_end = λ image leaves.
            subst (λ (l : Limits). Last l plan image) limits_are
            (subst (λ (p : Plan). Last (limits_of opened) p image) plan_is
            (ending header journaled.acknowledged image (subst (λ (d : D). disks.may_leave d image) left_is leaves)));
      }

-- a new round has no earlier records
begun-by : (start : Start) (past before : List Record) → past ≡ Life ∷ before → HasBegun start past → IsBegunBy start before
begun-by (Begin used next) past before is alone = ap behind (sym is ∙ alone)
begun-by GoOn past before is life = tt

pub life-of : (start : Start) (past : List Record) → HasBegun start past → IsNewLife past
life-of (Begin used next) past alone = record { before = []; is = alone }
life-of GoOn past life = life

pub round-of : {D R : Type 0} (disks : Ghosts D)
    (rescues : Ghosts R) (plan : Plan) (start : Start) (limits : Limits) (may : Telling) (call_log later_log : List Call)
    (disk left : D) (handed : R) (opened : Managed D) (records : List Record) (text : List ℕ) (status : ℕ) (rescue : Option R)
    → limits_of opened ≡ limits → plan_of opened ≡ plan → HasBegun start (past_of opened) → (disks.honest disk → BeginsOn plan (disks.seen disk) opened)
    → IsRunToEnd plan (past_of opened) records text status → DrivesToEnd (limits_of opened) (plan_of opened) may (past_of opened) call_log records later_log
    → IsRescued rescues plan records rescue → (rescues.honest handed → StaysHonest rescues rescue)
    → (disks.honest disk → IsRoundOnDisk disks rescues rescue start limits plan may (past_of opened) call_log None records later_log disk left)
    → IsRoundRun disks rescues plan start limits may call_log later_log disk left handed text status rescue
round-of disks rescues plan start limits may call_log later_log disk left handed opened records text status rescue
    limits_are plan_is anew begins led drives rescued keeps leaves =
    let life = life-of start (past_of opened) anew in
    let steps : DrivesToEnd limits plan may (Life ∷ life.before) call_log records later_log =
    subst (λ (r : List Record). DrivesToEnd limits plan may r call_log records later_log) life.is
    (subst (λ (l : Limits). DrivesToEnd l plan may (past_of opened) call_log records later_log) limits_are
    (subst (λ (p : Plan). DrivesToEnd (limits_of opened) p may (past_of opened) call_log records later_log) plan_is drives)) in
    record {
      begun = life.before;
      records = records;
      anew = begun-by start (past_of opened) life.before life.is anew;
      found = λ h. subst (λ (l : List Record). ReadsForInputs plan l (disks.seen disk)) (ap behind (sym (begins h).records ∙ life.is)) (begins h).found;
      led = subst (λ (l : List Record). IsRunToEnd plan l records text status) life.is led;
      steps = steps;
      spawns = end-hands limits plan may (Life ∷ life.before) call_log records later_log steps;
      rescued = rescued;
      keeps = keeps;
      on_disk = λ h. subst (λ (l : List Record). IsRoundOnDisk disks rescues rescue start limits plan may l call_log None records later_log disk left) life.is (leaves h);
    }
