-- How records and calls grow from one standing to another.
use Rattle.std.proofs.Common.{◌≡◌, ◌∙◌, List, [], ◌∷◌, ◌++◌, refl, sym, ap, append_assoc}
use Rattle.node_machine.specs.declared.Key.{Key}
use Rattle.node_machine.specs.declared.Outcome.{Outcome}
use Rattle.throttles.specs.declared.Limits.{Limits}
use Rattle.run_plan.specs.Plan.{Plan}
use Rattle.sched_core.specs.Ahead.{up_to_abort, ends_of}
use Rattle.job_starter_drive.specs.declared.Call.{Call}
use Rattle.job_starter_drive.specs.declared.Call.TheVariants as calls
use Rattle.job_starter_drive.specs.declared.Started.TheVariants.{Running, NotStarted}
use Rattle.job_starter_drive.specs.Calls.{snapshot_of, Telling}
use Rattle.job_starter_drive.specs.Drives.{Standing, drive_records, calls_of, IsStep, launch_round, skip_noop, spawn_child, spawn_failed, child_exits, child_gathered, ends_recorded, see_halt, kill_child, Goes, no_step, one_more, Kills, nobody, one_killed}
use Rattle.job_starter_drive.specs.Moments.{IsOlderPart}
use Rattle.job_starter_drive.proofs.Turns.{launched-older, added-older}

pub older-self : {A : Type 0} (all : List A) → IsOlderPart all all
older-self all = ([], refl)

pub older-one : {A : Type 0} (x : A) (all : List A) → IsOlderPart all (x ∷ all)
older-one x all = (x ∷ [], refl)

pub older-then : {A : Type 0} (first second third : List A) → IsOlderPart first second → IsOlderPart second third → IsOlderPart first third
older-then first second third p q = (q.0 ++ p.0, q.1 ∙ ap (λ l. q.0 ++ l) p.1 ∙ sym (append_assoc q.0 p.0 first))

pub older-is : {A : Type 0} (held kept : List A) → kept ≡ held → IsOlderPart held kept
older-is held kept same = ([], same)

module _ (limits : Limits) (plan : Plan) (may : Telling) where
  -- the records that were there are kept
  pub step-records : (from to : Standing) → IsStep limits plan may from to → IsOlderPart (drive_records from) (drive_records to)
  step-records _ _ (launch_round {past = past} {keys = keys} lawful going unhalted step round) = launched-older past keys
  step-records _ _ (skip_noop {past = past} quiet) = older-self past
  step-records _ _ (spawn_child {past = past} child is may_run) = older-self past
  step-records _ _ (spawn_failed {past = past} child is may_be) = older-self past
  step-records _ _ (child_exits {past = past} step held halt ran may_be) = older-self past
  step-records _ _ (child_gathered {past = past} gathers way held on few ran may_be) = older-self past
  step-records _ _ (ends_recorded {past = past} {end = end} {owed = owed}) = added-older past (up_to_abort plan past (ends_of (end ∷ owed)))
  step-records _ _ (see_halt {past = past} may_halt unhalted) = older-self past
  step-records _ _ (kill_child {past = past} ran free) = older-self past

  -- and so are the calls that were answered
  pub step-calls : (from to : Standing) → IsStep limits plan may from to → IsOlderPart (calls_of from) (calls_of to)
  step-calls _ _ (launch_round {call_log = call_log} lawful going unhalted step round) = older-self call_log
  step-calls _ _ (skip_noop {call_log = call_log} quiet) = older-self call_log
  step-calls _ _ (spawn_child {call_log = call_log} {key = key} {command = command} child is may_run) = older-one (calls.Started key (snapshot_of command) Running) call_log
  step-calls _ _ (spawn_failed {call_log = call_log} {key = key} {command = command} child is may_be) = older-one (calls.Started key (snapshot_of command) NotStarted) call_log
  step-calls _ _ (child_exits {call_log = call_log} {key = key} {outcome = outcome} step held halt ran may_be) = older-one (calls.Ended key outcome) call_log
  step-calls _ _ (child_gathered {call_log = call_log} {key = key} {outcome = outcome} gathers way held on few ran may_be) = older-one (calls.Ended key outcome) call_log
  step-calls _ _ (ends_recorded {call_log = call_log}) = older-self call_log
  step-calls _ _ (see_halt {call_log = call_log} may_halt unhalted) = older-one calls.HaltSeen call_log
  step-calls _ _ (kill_child {call_log = call_log} {key = key} ran free) = older-one (calls.Killed key) call_log

  pub goes-records : (from to : Standing) → Goes limits plan may from to → IsOlderPart (drive_records from) (drive_records to)
  goes-records from _ no_step = older-self (drive_records from)
  goes-records from to (one_more {between = between} steps step) =
      older-then (drive_records from) (drive_records between) (drive_records to) (goes-records from between steps) (step-records between to step)

  pub goes-calls : (from to : Standing) → Goes limits plan may from to → IsOlderPart (calls_of from) (calls_of to)
  goes-calls from _ no_step = older-self (calls_of from)
  goes-calls from to (one_more {between = between} steps step) =
      older-then (calls_of from) (calls_of between) (calls_of to) (goes-calls from between steps) (step-calls between to step)

pub kills-tell : (call_log last : List Call) → Kills call_log last → IsOlderPart call_log last
kills-tell call_log _ nobody = older-self call_log
kills-tell call_log _ (one_killed {later_log = later_log} {key = key} before ran first) =
    older-then call_log later_log (calls.Killed key ∷ later_log) (kills-tell call_log later_log before) (older-one (calls.Killed key) later_log)
