-- How a round begins: anew, or where the last manager left it.
use Rattle.std.specs.Prelude.{◌≡◌, ◌⊎◌, ◌≤◌, ℕ, List, [], ◌∷◌, Option, Ok, None, IsTrue, IsFalse}
use Rattle.event_journal_log.specs.declared.disk.Disk.{Ghosts}
use Rattle.node_machine.specs.declared.Key.{Key}
use Rattle.node_machine.specs.declared.Outcome.{Outcome}
use Rattle.throttles.specs.declared.Limits.{Limits}
use Rattle.run_plan.specs.Plan.{Plan}
use Rattle.node_machine.specs.declared.Record.{Record}
use Rattle.node_machine.specs.declared.Record.TheVariants.{Life}
use Rattle.sched_core.specs.Run.{is_lawful}
use Rattle.event_journal_log.specs.Crashes.{CrashesLeave}
use Rattle.event_journal_log.specs.Journal.{is_broken, journal_count, journal_limit}
use Rattle.event_journal_log.specs.Groups.{used_in}
use Rattle.event_journal_log.specs.Image.{Header, replay_of, groups_in}
use Rattle.recovery.specs.Recovery.{IsNewLife, IsMomentOfBegin, IsMomentOfRecovery, IsBeginFault, IsRecoveryFault}
use Rattle.recovery_manager.specs.declared.fault.ManagerFault.{ManagerFault}
use Rattle.recovery_manager.specs.Managed.{Managed, plan_of, past_of, disk_of, IsAcknowledged}
use Rattle.recovery_manager.specs.Chain.{ReadsForInputs}
use Rattle.recovery_manager.specs.Seal.{IsRescued}
use Rattle.recovery_manager.specs.Inputs.{IsHeaderOf, header_for, replay_by}
use Rattle.job_starter_drive.specs.declared.Call.{Call}
use Rattle.job_starter_drive.specs.Calls.{Telling}
use Rattle.job_starter_drive.specs.declared.driving.DriveFault.{DriveFault}
use Rattle.job_starter_drive.specs.Drives.{limits_of}
use Rattle.job_starter_drive.specs.Spawned.{SpawnsAll}
use Rattle.run_round.specs.RunToEnd.{IsRunToEnd, DrivesToEnd, StaysHonest}
use Rattle.run_round.specs.Moments.{IsMomentOfLead, IsLastOfLead}
use Rattle.run_round.specs.declared.rounds.Start.{Start}
use Rattle.run_round.specs.declared.rounds.Start.TheVariants.{Begin, GoOn}

-- a new round begins where nothing is but what reads as Fresh; the others go on where a journal is
abbrev pub FitsIn : Start → List ℕ → Type 0
FitsIn (Begin used next) image = replay_of image ≡ Ok None
FitsIn GoOn image = ¬ (replay_of image ≡ Ok None)

-- the records of a manager whose life has begun: Life alone in a new round
abbrev pub HasBegun : Start → List Record → Type 0
HasBegun (Begin used next) past = past ≡ Life ∷ []
HasBegun GoOn past = IsNewLife past

-- those before it: none in a new round
abbrev pub IsBegunBy : Start → List Record → Type 0
IsBegunBy (Begin used next) begun = begun ≡ []
IsBegunBy GoOn begun = Unit {0}

-- while a round is opened: an image from before, or a moment of a run that begins, or of one that is recovered
abbrev pub IsMomentOfOpening : Start → Plan → (List ℕ → Type 0) → List ℕ → List ℕ → Type 0
IsMomentOfOpening (Begin used next) plan before found = IsMomentOfBegin before (header_for used next plan)
IsMomentOfOpening GoOn plan before found = IsMomentOfRecovery plan before (replay_of found)

-- What a round makes of the journal's disk: a crash at any moment leaves one from before it, a moment of its opening, or one of the
-- run that it leads, of these inputs, and the run's end only where the rescue file that is owed is on its disk, which is handed back; and a crash
-- after it none that lacks a record that is kept.
pub record IsRoundOnDisk {D R : Type 0} (disks : Ghosts D) (rescues : Ghosts R) (rescue : Option R) (start : Start) (limits : Limits) (plan : Plan)
    (may : Telling) (past : List Record) (call_log : List Call) (fault : Option DriveFault) (kept : List Record) (last : List Call) (disk left : D) : Type 0 where
  pub header : Header
  pub inputs : IsHeaderOf plan header
  pub any_moment : CrashesLeave disks disk left
      (λ image. IsMomentOfOpening start plan (disks.may_leave disk) (disks.seen disk) image ⊎ IsMomentOfLead rescues rescue limits plan may past call_log fault kept last header image)
  pub at_the_end : (image : List ℕ) → disks.may_leave left image → IsLastOfLead rescues rescue limits plan may past call_log fault kept last header image

-- A round over any disks and starter: its life began on the records of the bytes that were there, and Life; it was led to
-- its end, one step after another, and printed this; the commands of its launches were handed over; and the rescue file that it
-- owes is on its disk, which is honest as the one was that it was handed.
pub record IsRoundRun {D R : Type 0} (disks : Ghosts D)
    (rescues : Ghosts R) (plan : Plan) (start : Start) (limits : Limits) (may : Telling) (call_log later_log : List Call)
    (disk left : D) (handed : R) (text : List ℕ) (status : ℕ) (rescue : Option R) : Type 0 where
  pub begun : List Record
  pub records : List Record
  pub anew : IsBegunBy start begun
  pub found : disks.honest disk → ReadsForInputs plan begun (disks.seen disk)
  pub led : IsRunToEnd plan (Life ∷ begun) records text status
  pub steps : DrivesToEnd limits plan may (Life ∷ begun) call_log records later_log
  pub spawns : SpawnsAll plan (Life ∷ begun) records call_log later_log
  pub rescued : IsRescued rescues plan records rescue
  pub keeps : rescues.honest handed → StaysHonest rescues rescue
  pub on_disk : disks.honest disk → IsRoundOnDisk disks rescues rescue start limits plan may (Life ∷ begun) call_log None records later_log disk left

-- why a round is not opened, and what is left of the disk
abbrev pub IsOpeningFault : {D : Type 0} → Ghosts D → Plan → ℕ → Start → D → D → ManagerFault → Type 0
IsOpeningFault disks plan slots (Begin used next) old new = IsBeginFault disks slots old new
IsOpeningFault disks plan slots GoOn old new = IsRecoveryFault disks plan slots (groups_in (disks.seen old)) (replay_by plan (disks.seen old)) old new

-- The journal on the disk is one of these inputs with the manager's records, and a crash leaves it so.
pub record IsJournaled {D : Type 0} (disks : Ghosts D) (plan : Plan) (manager : Managed D) : Type 0 where
  pub header : Header
  pub inputs : IsHeaderOf plan header
  pub acknowledged : IsAcknowledged disks header manager

-- a manager's life has begun on the records of these bytes, which are lawful
pub record BeginsOn {D : Type 0} (plan : Plan) (image : List ℕ) (manager : Managed D) : Type 0 where
  pub begun : List Record
  pub found : ReadsForInputs plan begun image
  pub lawful : IsTrue (is_lawful plan begun)
  pub records : past_of manager ≡ Life ∷ begun

-- A round is opened: its manager keeps to the limits, and its life has begun on the records of the bytes that were there. The journal is
-- whole, of as many slots; of an honest disk it counts the slots that are used. The disk has its bounds, and has failed no less often.
pub record IsRoundOpened {D : Type 0} (disks : Ghosts D) (plan : Plan) (slots : ℕ) (start : Start) (limits : Limits) (disk : D) (manager : Managed D) : Type 0 where
  pub plan_is : plan_of manager ≡ plan
  pub limits_are : limits_of manager ≡ limits
  pub anew : HasBegun start (past_of manager)
  pub begun : disks.honest disk → BeginsOn plan (disks.seen disk) manager
  pub whole : IsFalse (is_broken manager.journal)
  pub slots_are : journal_limit manager.journal ≡ slots
  pub room : disks.capacity (disk_of manager) ≡ disks.capacity disk
  pub later : disks.faults disk ≤ disks.faults (disk_of manager)
  pub count : disks.honest disk → journal_count manager.journal ≡ used_in (groups_in (disks.seen (disk_of manager)))
