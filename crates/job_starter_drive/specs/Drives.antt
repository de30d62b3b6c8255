-- What a run hands over to a starter, and what it records of the answers. Records and calls stand the newest first, what is launched
-- or ended together the oldest first.
use Rattle.std.specs.Prelude.{◌≡◌, ◌<◌, ◌≤◌, ◌+◌, ◌⊎◌, ℕ, Bool, true, not, ◌&&◌, List, [], ◌∷◌, ◌++◌, length, Option, Some, None, Ok, IsTrue, IsFalse}
use Rattle.std.specs.List.{list_all}
use Rattle.std.specs.declared.snapshot.Snapshot.{Snapshot}
use Rattle.node_machine.specs.declared.Key.{Key}
use Rattle.node_machine.specs.declared.Outcome.{Outcome}
use Rattle.node_machine.specs.declared.Outcome.TheVariants.{Exit, NoStart}
use Rattle.node_machine.specs.Story.{is_noop_job, is_possible, may_end_with}
use Rattle.throttles.specs.declared.Limits.{Limits}
use Rattle.run_plan_node.specs.declared.command.ChildCommand.{ChildCommand}
use Rattle.run_plan.specs.Plan.{Plan, node_at}
use Rattle.run_plan_node.specs.Commands.{phase_command, starts_child}
use Rattle.sched_core.specs.declared.Choice.{Choice}
use Rattle.sched_core.specs.declared.Choice.TheVariants as choices
use Rattle.node_machine.specs.declared.Record.{Record}
use Rattle.node_machine.specs.declared.Record.TheVariants.{End}
use Rattle.sched_core.specs.Run.{outstanding, is_among, is_nothing, is_aborted, is_open, is_lawful, without}
use Rattle.sched_core.specs.Bound.{records_left}
use Rattle.sched_core.specs.Ahead.{launched, launches, AreChosen, NothingToStart, added, up_to_abort, ends_of, ended_in}
use Rattle.sched_core.specs.Commands.{facts_in}
use Rattle.sched_core.specs.Looks.{stops}
use Rattle.recovery_manager.specs.Managed.{Managed}
use Rattle.recovery_manager.specs.declared.fault.ManagerFault.{ManagerFault}
use Rattle.recovery_manager.specs.declared.fault.ManagerFault.TheVariants as faults
use Rattle.job_starter_drive.specs.declared.Call.{Call}
use Rattle.job_starter_drive.specs.declared.Call.TheVariants as calls
use Rattle.job_starter_drive.specs.declared.Started.{Started}
use Rattle.job_starter_drive.specs.declared.Started.TheVariants.{Running, NotStarted}
use Rattle.job_starter_drive.specs.declared.driving.DriveFault.{DriveFault}
use Rattle.job_starter_drive.specs.declared.driving.DriveFault.TheVariants as drives
use Rattle.job_starter_drive.specs.Calls.{running, oldest, is_halt_seen, snapshot_of, MayRun, MightHalt, Telling}

-- the limits that a manager keeps to
abbrev pub limits_of : {D : Type 0} → Managed D → Limits
limits_of manager = manager.core.limits

-- the command of a phase by what the records say, its launch among them
abbrev pub IsCommandIn : Plan → List Record → Key → ChildCommand → Type 0
IsCommandIn plan records key command =
    phase_command (node_at plan key.node) key.attempt key.phase (facts_in plan records key) ≡ Ok command

-- the children that run are the outstanding phases, and each of these starts a child
pub record AreInStep (plan : Plan) (past : List Record) (call_log : List Call) : Type 0 where
  pub same : running call_log ≡ outstanding plan past
  pub children : IsTrue (list_all (λ key. starts_child (node_at plan key.node) key.phase) (outstanding plan past))

-- keys with those that were launched after them, the first of these first
abbrev pub with_launched : List Key → List Key → List Key
with_launched [] keys = keys
with_launched (key ∷ launched) keys = with_launched launched (key ∷ keys)

-- keys without all of these
abbrev pub without_all : List Key → List Key → List Key
without_all [] keys = keys
without_all (gone ∷ more) keys = without_all more (without gone keys)

-- each of these phases is outstanding once those before it ended, and may end so
abbrev pub MayEndAll : Plan → List Key → List (Key × Outcome) → Type 0
MayEndAll plan keys [] = Unit {0}
MayEndAll plan keys (end ∷ child_exits) =
    IsTrue (is_among end.0 keys) × IsTrue (is_possible end.1) × IsTrue (may_end_with (node_at plan end.0.node).course end.0.phase end.1)
    × MayEndAll plan (without end.0 keys) child_exits

-- a round launches no more phases than this
abbrev pub most_at_once : ℕ
most_at_once = 64

-- Within a round the outstanding phases, but for those whose ends are owed, are the children that run and what is not yet handed over.
pub record AreUnderWay (plan : Plan) (past : List Record) (call_log : List Call) (keys : List Key) (owed : List (Key × Outcome)) : Type 0 where
  pub same : without_all (ended_in owed) (outstanding plan past) ≡ with_launched keys (running call_log)
  pub children : IsTrue (list_all (λ key. starts_child (node_at plan key.node) key.phase) (running call_log))
  pub ends : MayEndAll plan (outstanding plan past) owed
  pub few : length keys + length owed ≤ most_at_once

-- the run goes on, and fewer records are to come
pub record IsNearerEnd (plan : Plan) (before past : List Record) : Type 0 where
  pub going : IsTrue (is_open past)
  pub fewer : records_left plan past < records_left plan before

-- a phase that was launched was handed over with its command, and this was the answer
pub record IsSpawned (plan : Plan) (records : List Record) (key : Key) (answer : Started) (call_log later_log : List Call) : Type 0 where
  pub command : ChildCommand
  pub is : IsCommandIn plan records key command
  pub entry : later_log ≡ calls.Started key (snapshot_of command) answer ∷ call_log

-- A round: phases that are launched together, each what is chosen once those before it are launched; fewer than may be only where
-- nothing more may be launched after them.
pub record IsRoundOf (limits : Limits) (plan : Plan) (past : List Record) (keys : List Key) : Type 0 where
  pub some : 0 < length keys
  pub few : length keys ≤ most_at_once
  pub chosen : AreChosen limits plan past keys
  pub full : length keys < most_at_once → NothingToStart limits plan (launched past keys)

-- Where a run is: its records, and the calls that its starter answered; of a round the phases that are launched and not yet handed
-- over; and the endings that are known and not yet recorded.
pub data Standing : Type 0 where
  At : List Record → List Call → List Key → List (Key × Outcome) → Standing

-- between two rounds
abbrev pub at_rest : List Record → List Call → Standing
at_rest past call_log = At past call_log [] []

abbrev pub drive_records : Standing → List Record
drive_records (At past call_log keys owed) = past

abbrev pub calls_of : Standing → List Call
calls_of (At past call_log keys owed) = call_log

-- recorded one after another, none of these endings aborts the run
abbrev pub none_aborts : Plan → List Record → List (Key × Outcome) → Bool
none_aborts plan past [] = true
none_aborts plan past (end ∷ owed) = not (stops plan past (End end.0 end.1)) && none_aborts plan (End end.0 end.1 ∷ past) owed

-- nothing is launched: the limits let nothing in, or a halt was seen
abbrev pub IsHeld : Limits → Plan → List Record → List Call → Type 0
IsHeld limits plan past call_log = NothingToStart limits plan past ⊎ IsTrue (is_halt_seen call_log)

-- One step of a run. A round is launched, while the run goes on, no halt was seen and the children that run are the outstanding phases. Of
-- its phases the first is handed over with its command, and its child starts, or doesn't: then its end with NoStart is owed; the job of a
-- NOOP is not handed over, and its end with Exit 0 is owed. Once all are handed over, what is owed is recorded together, up to the first
-- that aborts the run. Where nothing is launched, a child is reported to have ended, which is owed then. Further endings that are at hand
-- are gathered after it, 64 in all, where none before them aborts the run and by the records before all of them nothing may be launched.
-- Or a halt is seen, from where on nothing is launched. Or a child is killed whose phase is not outstanding.
pub data IsStep (limits : Limits) (plan : Plan) (may : Telling) : Standing → Standing → Type 0 where
  launch_round : {past : List Record} {call_log : List Call} {keys : List Key} → IsTrue (is_lawful plan past) → IsTrue (is_open past)
      → IsFalse (is_halt_seen call_log) → AreInStep plan past call_log → IsRoundOf limits plan past keys
      → IsStep limits plan may (At past call_log [] []) (At (launched past keys) call_log keys [])
  skip_noop : {past : List Record} {call_log : List Call} {key : Key} {keys : List Key} {owed : List (Key × Outcome)}
      → IsTrue (is_noop_job (node_at plan key.node).course key.phase)
      → IsStep limits plan may (At past call_log (key ∷ keys) owed) (At past call_log keys (owed ++ (key, Exit 0) ∷ []))
  spawn_child : {past : List Record} {call_log : List Call} {key : Key} {keys : List Key} {owed : List (Key × Outcome)} {command : ChildCommand}
      → IsTrue (starts_child (node_at plan key.node) key.phase) → IsCommandIn plan past key command → MayRun may call_log key
      → IsStep limits plan may (At past call_log (key ∷ keys) owed) (At past (calls.Started key (snapshot_of command) Running ∷ call_log) keys owed)
  spawn_failed : {past : List Record} {call_log : List Call} {key : Key} {keys : List Key} {owed : List (Key × Outcome)} {command : ChildCommand}
      → IsTrue (starts_child (node_at plan key.node) key.phase) → IsCommandIn plan past key command → may.may_be call_log key NoStart
      → IsStep limits plan may (At past call_log (key ∷ keys) owed)
      (At past (calls.Started key (snapshot_of command) NotStarted ∷ call_log) keys (owed ++ (key, NoStart) ∷ []))
  child_exits : {past : List Record} {call_log : List Call} {key : Key} {outcome : Outcome} → AreInStep plan past call_log → IsHeld limits plan past call_log
      → MightHalt may call_log → IsTrue (is_among key (running call_log)) → may.may_be call_log key outcome
      → IsStep limits plan may (At past call_log [] []) (At past (calls.Ended key outcome ∷ call_log) [] ((key, outcome) ∷ []))
  child_gathered : {past : List Record} {call_log : List Call} {end : Key × Outcome} {owed : List (Key × Outcome)} {key : Key} {outcome : Outcome}
      → may.gathers → AreUnderWay plan past call_log [] (end ∷ owed) → IsHeld limits plan past call_log
      → IsTrue (none_aborts plan past (end ∷ owed)) → length (end ∷ owed) < most_at_once
      → IsTrue (is_among key (running call_log)) → may.may_be call_log key outcome
      → IsStep limits plan may (At past call_log [] (end ∷ owed)) (At past (calls.Ended key outcome ∷ call_log) [] ((end ∷ owed) ++ (key, outcome) ∷ []))
  ends_recorded : {past : List Record} {call_log : List Call} {end : Key × Outcome} {owed : List (Key × Outcome)}
      → IsStep limits plan may (At past call_log [] (end ∷ owed)) (At (added past (up_to_abort plan past (ends_of (end ∷ owed)))) call_log [] [])
  see_halt : {past : List Record} {call_log : List Call} → may.may_halt → IsFalse (is_halt_seen call_log)
      → IsStep limits plan may (At past call_log [] []) (At past (calls.HaltSeen ∷ call_log) [] [])
  kill_child : {past : List Record} {call_log : List Call} {key : Key} → IsTrue (is_among key (running call_log)) → IsFalse (is_among key (outstanding plan past))
      → IsStep limits plan may (At past call_log [] []) (At past (calls.Killed key ∷ call_log) [] [])

-- any number of steps
pub data Goes (limits : Limits) (plan : Plan) (may : Telling) (from : Standing) : Standing → Type 0 where
  no_step : Goes limits plan may from from
  one_more : {between to : Standing} → Goes limits plan may from between → IsStep limits plan may between to → Goes limits plan may from to

-- any number of steps from rest to rest
abbrev pub Drives : Limits → Plan → Telling → List Record → List Call → List Record → List Call → Type 0
Drives limits plan may past call_log after last = Goes limits plan may (at_rest past call_log) (at_rest after last)

-- the verdict of a choice to finish
abbrev pub final_verdict : Choice → Option ℕ
final_verdict (choices.Finish verdict) = Some verdict
final_verdict _ = None

-- Where each fault stops a run, and the records that the manager was handed there and refused, the oldest first. Memory was refused for a
-- child, or for its command: it and those after it in its round are launched and not handed over. Memory was refused for the list of a round,
-- or, as the call began, for that of the endings that will be owed: nothing is launched or waited for. Where no ending was reported, nothing
-- is launched and some phase is outstanding. A halt was seen, and no phase is outstanding. In all of these the manager refused no record.
-- Or it refused the launches of a round, or the ends that are owed, up to the first that aborts the run.
pub data IsStoppedAt (limits : Limits) (plan : Plan) : DriveFault → Standing → List Record → Type 0 where
  child_refused : {past : List Record} {call_log : List Call} {key : Key} {keys : List Key} {owed : List (Key × Outcome)}
      → IsTrue (starts_child (node_at plan key.node) key.phase) → IsStoppedAt limits plan drives.StartMemory (At past call_log (key ∷ keys) owed) []
  command_refused : {past : List Record} {call_log : List Call} {key : Key} {keys : List Key} {owed : List (Key × Outcome)}
      → IsTrue (starts_child (node_at plan key.node) key.phase) → IsStoppedAt limits plan drives.Memory (At past call_log (key ∷ keys) owed) []
  list_refused : {past : List Record} {call_log : List Call} → IsStoppedAt limits plan drives.Memory (At past call_log [] []) []
  round_refused : {past : List Record} {call_log : List Call} → IsStoppedAt limits plan (drives.Manager faults.Memory) (At past call_log [] []) []
  launch_refused : {past : List Record} {call_log : List Call} {keys : List Key} {fault : ManagerFault} → IsRoundOf limits plan past keys
      → IsStoppedAt limits plan (drives.Manager fault) (At past call_log [] []) (launches past keys)
  end_refused : {past : List Record} {call_log : List Call} {end : Key × Outcome} {owed : List (Key × Outcome)} {fault : ManagerFault}
      → IsStoppedAt limits plan (drives.Manager fault) (At past call_log [] (end ∷ owed)) (up_to_abort plan past (ends_of (end ∷ owed)))
  none_told : {past : List Record} {call_log : List Call} → IsHeld limits plan past call_log → IsFalse (is_nothing (outstanding plan past))
      → IsStoppedAt limits plan drives.WaitFault (At past call_log [] []) []
  halted : {past : List Record} {call_log : List Call} → IsTrue (is_halt_seen call_log) → IsTrue (is_nothing (outstanding plan past))
      → IsStoppedAt limits plan drives.Halted (At past call_log [] []) []

-- children were to be started, and a halt may have been seen; none ended and none was killed
pub data Starts (call_log : List Call) : List Call → Type 0 where
  none_started : Starts call_log call_log
  one_start : {later_log : List Call} {key : Key} {command : Snapshot ChildCommand} {answer : Started} → Starts call_log later_log
      → Starts call_log (calls.Started key command answer ∷ later_log)
  one_halt : {later_log : List Call} → Starts call_log later_log → Starts call_log (calls.HaltSeen ∷ later_log)

-- running children are killed one after another, each time the one that was started first
pub data Kills (call_log : List Call) : List Call → Type 0 where
  nobody : Kills call_log call_log
  one_killed : {later_log : List Call} {key : Key} → Kills call_log later_log → IsTrue (is_among key (running later_log)) → oldest (running later_log) ≡ Some key →
      Kills call_log (calls.Killed key ∷ later_log)

-- the newest record aborted the run
abbrev pub AbortsAtLast : Plan → List Record → Type 0
AbortsAtLast plan [] = ⊥
AbortsAtLast plan (newest ∷ past) = IsFalse (is_aborted plan past) × IsTrue (is_aborted plan (newest ∷ past))

-- nothing more is launched; or the newest record aborted the run, which was not aborted before
abbrev pub IsLaunched : Limits → Plan → List Record → List Record → List Call → Type 0
IsLaunched limits plan before past call_log = IsHeld limits plan past call_log ⊎ (IsFalse (is_aborted plan before) × AbortsAtLast plan past)

-- After a crash: any number of steps. Of a round phases may be launched and not handed over, and endings known and not recorded.
pub record IsHaltedFrom (limits : Limits) (plan : Plan) (may : Telling) (from : Standing) (after : List Record) (last : List Call) : Type 0 where
  pub keys : List Key
  pub owed : List (Key × Outcome)
  pub steps : Goes limits plan may from (At after last keys owed)

abbrev pub IsHalted : Limits → Plan → Telling → List Record → List Call → List Record → List Call → Type 0
IsHalted limits plan may past call_log after last = IsHaltedFrom limits plan may (at_rest past call_log) after last

-- the run was aborted between these records and those
abbrev pub is_aborted_between : Plan → List Record → List Record → Bool
is_aborted_between plan past after = not (is_aborted plan past) && is_aborted plan after

-- What a round, or an ending, makes of a run: it goes on. Where that didn't abort it, the children that run are the outstanding phases
-- again; where it did, the newest record did, and no phase is outstanding. What was aborted stays so.
pub record IsTurn (plan : Plan) (past after : List Record) (last : List Call) : Type 0 where
  pub going : IsTrue (is_open after)
  pub in_step : IsFalse (is_aborted_between plan past after) → AreInStep plan after last
  pub at_last : IsTrue (is_aborted_between plan past after) → AbortsAtLast plan after
  pub empty : IsTrue (is_aborted_between plan past after) → outstanding plan after ≡ []
  pub stays : IsTrue (is_aborted plan past) → IsTrue (is_aborted plan after)

-- After a fault: any number of steps, to where that fault stops a run. The manager was handed these records there and refused them.
pub record IsHaltedBy (limits : Limits) (plan : Plan) (may : Telling) (past : List Record) (call_log : List Call) (fault : DriveFault) (refused after : List Record) (last : List Call) : Type 0 where
  pub keys : List Key
  pub owed : List (Key × Outcome)
  pub steps : Goes limits plan may (at_rest past call_log) (At after last keys owed)
  pub stop : IsStoppedAt limits plan fault (At after last keys owed) refused

-- after a fault: the same, and all children that still ran are killed
pub record IsStopped (limits : Limits) (plan : Plan) (may : Telling) (past : List Record) (call_log : List Call) (fault : DriveFault) (refused after : List Record) (last : List Call) : Type 0 where
  pub rest : List Call
  pub halted : IsHaltedBy limits plan may past call_log fault refused after rest
  pub kills : Kills rest last
