-- What a crash may leave of a run, at any moment of the call that leads it to its end.
use Rattle.std.specs.Prelude.{◌≡◌, ◌⊎◌, ℕ, List, ◌++◌, Option, Some, None, Result, Ok, Err, IsTrue}
use Rattle.event_journal_log.specs.declared.disk.Disk.{Ghosts}
use Rattle.node_machine.specs.declared.Key.{Key}
use Rattle.node_machine.specs.declared.Outcome.{Outcome}
use Rattle.throttles.specs.declared.Limits.{Limits}
use Rattle.run_plan.specs.Plan.{Plan}
use Rattle.node_machine.specs.declared.Record.{Record}
use Rattle.sched_core.specs.Run.{is_lawful}
use Rattle.event_journal_log.specs.Image.{Header}
use Rattle.recovery_manager.specs.Managed.{ReadsJournal}
use Rattle.recovery_manager.specs.Seal.{IsRescued}
use Rattle.recovery_manager.specs.Chain.{Command, IsLifeOf, life_of, life_records}
use Rattle.job_starter_drive.specs.declared.Call.{Call}
use Rattle.job_starter_drive.specs.Calls.{Telling}
use Rattle.job_starter_drive.specs.declared.driving.DriveFault.{DriveFault}
use Rattle.job_starter_drive.specs.Spawned.{spawned}
use Rattle.job_starter_drive.specs.Moments.{IsOlderPart, MayHold, IsMomentOfRun, IsLastMoment}
use Rattle.run_round.specs.RunToEnd.{DrivesToEnd}
use Rattle.run_round.specs.declared.leading.RunToEnd.{RunToEnd}

-- the fault of an answer that hands something back
abbrev pub fault_behind : {T A : Type 0} → Result T (A × DriveFault) → Option DriveFault
fault_behind (Ok done) = None
fault_behind (Err refused) = Some refused.1

-- the disk of the rescue file that an answer hands back
abbrev pub rescue_behind : {R : Type 0} → Result (RunToEnd R) (Option R × DriveFault) → Option R
rescue_behind (Ok led) = led.rescue
rescue_behind (Err refused) = refused.0

-- A moment at which the end of the run is recorded, after all of its steps and calls: the image has the end. The rescue file that the run owes
-- is on its disk by then, which is the one that is handed back.
pub record IsMomentOfEnd {R : Type 0} (rescues : Ghosts R) (rescue : Option R) (limits : Limits) (plan : Plan) (may : Telling) (past : List Record) (call_log : List Call)
    (fault : Option DriveFault) (kept : List Record) (last : List Call) (header : Header) (image : List ℕ) : Type 0 where
  pub held : List Record
  pub lawful : IsTrue (is_lawful plan held)
  pub ended : DrivesToEnd limits plan may past call_log held last
  pub rescued : IsRescued rescues plan ended.between rescue
  pub part : MayHold fault kept held
  pub reads : ReadsJournal header held image

-- a moment of the run, or of its end
abbrev pub IsMomentOfLead : {R : Type 0} → Ghosts R → Option R → Limits → Plan → Telling → List Record → List Call → Option DriveFault → List Record → List Call → Header → List ℕ → Type 0
IsMomentOfLead rescues rescue limits plan may past call_log fault kept last header image =
    IsMomentOfRun limits plan may past call_log fault kept last header image ⊎ IsMomentOfEnd rescues rescue limits plan may past call_log fault kept last header image

-- such a moment at which none of the records is missing that the call keeps
abbrev pub IsLastOfLead : {R : Type 0} → Ghosts R → Option R → Limits → Plan → Telling → List Record → List Call → Option DriveFault → List Record → List Call → Header → List ℕ → Type 0
IsLastOfLead rescues rescue limits plan may past call_log fault kept last header image =
    IsLastMoment limits plan may past call_log fault kept last header image
    ⊎ ((end : IsMomentOfEnd rescues rescue limits plan may past call_log fault kept last header image) × IsOlderPart kept end.held)

-- A run that stopped at its end is a life of the manager that found these bytes, as it is at any other moment.
pub record IsLifeAtEnd {R : Type 0} {rescues : Ghosts R} {rescue : Option R} {limits : Limits} {plan : Plan} {may : Telling} (begun : List Record) {past : List Record} (call_log : List Call)
    {fault : Option DriveFault} {kept : List Record} {last : List Call} {header : Header} (found image : List ℕ)
    (stop : IsMomentOfEnd rescues rescue limits plan may past call_log fault kept last header image) : Type 0 where
  pub own : List Command
  pub are : spawned last ≡ spawned call_log ++ own
  pub life : IsLifeOf plan (life_of found (life_records begun stop.held) own image)
