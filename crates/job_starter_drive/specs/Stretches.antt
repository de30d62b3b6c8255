-- A stretch of a run: what a call makes of a manager and its starter.
use Rattle.std.specs.Prelude.{◌≡◌, ℕ, ◌≤◌, List, Some, None}
use Rattle.event_journal_log.specs.declared.disk.Disk.{Ghosts}
use Rattle.node_machine.specs.declared.Key.{Key}
use Rattle.node_machine.specs.declared.Outcome.{Outcome}
use Rattle.node_machine.specs.declared.Record.{Record}
use Rattle.throttles.specs.declared.Limits.{Limits}
use Rattle.run_plan.specs.Plan.{Plan}
use Rattle.recovery_manager.specs.Managed.{Managed, plan_of, past_of, KeepsDisk}
use Rattle.job_starter_drive.specs.declared.Call.{Call}
use Rattle.job_starter_drive.specs.declared.starter.Starter.{Ghosts as Starters}
use Rattle.job_starter_drive.specs.declared.driving.DriveFault.{DriveFault}
use Rattle.job_starter_drive.specs.Calls.{AllowsNoMore, Telling}
use Rattle.job_starter_drive.specs.Drives.{Standing, At, drive_records, calls_of, limits_of, Goes, IsStoppedAt}
use Rattle.job_starter_drive.specs.Moments.{IsMomentFrom, IsLastFrom, AtAnyMoment, AtTheEnd, StaysAcknowledged, UnlessDiskFault, CountsOn}
use Rattle.job_starter_drive.specs.Causes.{IsDriveFault}

-- A run went on from one standing to another, one step after another: its manager has the records. A crash at any moment leaves what
-- was recorded until some moment of it, and what it recorded is in every later image. The starter refused nothing.
pub record IsStretch {D : Type 0} (disks : Ghosts D) (limits : Limits) (plan : Plan) (may may_now : Telling) (before now : ℕ) (old new : Managed D) (from to : Standing) : Type 0 where
  pub plan_is : plan_of new ≡ plan
  pub limits_are : limits_of new ≡ limits
  pub here : past_of new ≡ drive_records to
  pub steps : Goes limits plan may from to
  pub any_moment : AtAnyMoment disks old new (IsMomentFrom limits plan may from None (drive_records to) (calls_of to))
  pub acknowledged : StaysAcknowledged disks old new
  pub disk : KeepsDisk disks old.journal new.journal
  pub counts : CountsOn old new
  pub unrefused : now ≡ before
  pub allows_no_more : AllowsNoMore may may_now

-- A stretch that a fault cut short: steps, to where that fault stops a run, and the cause; the records that the manager was handed there are
-- those that it refused. A crash at any moment leaves what was recorded until some moment of it, or, where the disk refused records, perhaps
-- those too; after the call none of its records is missing.
pub record IsCutShort {D : Type 0} (disks : Ghosts D) (limits : Limits) (plan : Plan) (may may_now : Telling) (before now : ℕ) (old new : Managed D) (from : Standing) (last : List Call)
    (fault : DriveFault) : Type 0 where
  pub plan_is : plan_of new ≡ plan
  pub limits_are : limits_of new ≡ limits
  pub keys : List Key
  pub owed : List (Key × Outcome)
  pub steps : Goes limits plan may from (At (past_of new) last keys owed)
  pub refused : List Record
  pub stop : IsStoppedAt limits plan fault (At (past_of new) last keys owed) refused
  pub any_moment : AtAnyMoment disks old new (IsMomentFrom limits plan may from (Some fault) (past_of new) last)
  pub left : AtTheEnd disks old new (IsLastFrom limits plan may from (Some fault) (past_of new) last)
  pub acknowledged : UnlessDiskFault (Some fault) (StaysAcknowledged disks old new)
  pub disk : KeepsDisk disks old.journal new.journal
  pub later : before ≤ now
  pub cause : IsDriveFault disks before now old new refused fault
  pub allows_no_more : AllowsNoMore may may_now

-- A call led a run on from one standing to another: the manager and the starter, each as it was before the call and as it is after it.
abbrev pub WentOn : {D S : Type 0} → Ghosts D → Starters S → Managed D → Managed D → S → S → Standing → Standing → Type 0
WentOn disks starters old new first last from to = IsStretch disks (limits_of old) (plan_of old) (starters.may_return first) (starters.may_return last)
    (starters.faults first) (starters.faults last) old new from to

-- A fault cut such a call short.
abbrev pub WasCutShort : {D S : Type 0} → Ghosts D → Starters S → Managed D → Managed D → S → S → Standing → DriveFault → Type 0
WasCutShort disks starters old new first last from fault = IsCutShort disks (limits_of old) (plan_of old) (starters.may_return first) (starters.may_return last)
    (starters.faults first) (starters.faults last) old new from (starters.call_log last) fault
