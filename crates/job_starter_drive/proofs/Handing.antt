-- What is handed over: the commands of the launches that start a child, in their order.
use Rattle.std.proofs.Common.{arith, ◌≡◌, ◌≤◌, suc, Bool, true, false, List, [], ◌∷◌, ◌++◌, length, Ok, refl, sym, ap, ◌∙◌, subst, if◌then◌else◌}
use Rattle.std.proofs.lemmas.List.{append-nil, append_assoc}
use Rattle.node_machine.specs.declared.Key.{Key}
use Rattle.node_machine.specs.declared.Outcome.{Outcome}
use Rattle.node_machine.specs.declared.Outcome.TheVariants.{NoStart}
use Rattle.run_plan_node.specs.declared.command.ChildCommand.{ChildCommand}
use Rattle.throttles.specs.declared.Limits.{Limits}
use Rattle.run_plan.specs.Plan.{Plan, node_at}
use Rattle.run_plan_node.specs.Commands.{phase_command, starts_child}
use Rattle.node_machine.specs.declared.Record.{Record}
use Rattle.node_machine.specs.declared.Record.TheVariants.{End}
use Rattle.sched_core.specs.Run.{is_lawful, launch_number}
use Rattle.sched_core.specs.Ahead.{launch_of, launched, added, up_to_abort, ends_of}
use Rattle.sched_core.specs.Commands.{facts_in}
use Rattle.sched_core.specs.Looks.{stops}
use Rattle.sched_core.proofs.Batches.{together}
use Rattle.recovery_manager.specs.Chain.{Command, commands_in}
use Rattle.job_starter_drive.specs.declared.Call.{Call}
use Rattle.job_starter_drive.specs.declared.Call.TheVariants as calls
use Rattle.job_starter_drive.specs.declared.Started.{Started}
use Rattle.job_starter_drive.specs.declared.Started.TheVariants.{Running, NotStarted}
use Rattle.job_starter_drive.specs.declared.driving.DriveFault.{DriveFault}
use Rattle.job_starter_drive.proofs.Phases.{noop-quiet}
use Rattle.job_starter_drive.proofs.Turns.{launched-onto, launch-all}
use Rattle.job_starter_drive.specs.Calls.{snapshot_of, Telling}
use Rattle.job_starter_drive.specs.Drives.{most_at_once, Standing, At, at_rest, drive_records, calls_of, IsCommandIn, IsStep, launch_round, skip_noop, spawn_child, spawn_failed, child_exits, child_gathered, ends_recorded, see_halt, kill_child, Goes, no_step, one_more, Drives, Kills, nobody, one_killed, IsHalted, IsHaltedBy, IsStopped}
use Rattle.job_starter_drive.specs.Spawned.{spawned, SpawnsAll, SpawnsAllButSome}

-- a phase and its command, by what the records say
abbrev command_in : Plan → List Record → Key → Command
command_in plan records key = (key, phase_command (node_at plan key.node) key.attempt key.phase (facts_in plan records key))

-- of these phases those that start a child, with their commands
abbrev commands_for : Plan → List Record → List Key → List Command
commands_for plan records [] = []
commands_for plan records (key ∷ keys) =
    if starts_child (node_at plan key.node) key.phase then command_in plan records key ∷ commands_for plan records keys else commands_for plan records keys

abbrev keys_of : Standing → List Key
keys_of (At past call_log keys owed) = keys

-- launches of a round, of which the first stand in the records: the commands of the others come after theirs
module _ (plan : Plan) (now : List Record) (lawful : is_lawful plan now ≡ true) where
  launched-commands : (past : List Record) (keys : List Key) → launched past keys ≡ now → commands_in plan now ≡ commands_in plan past ++ commands_for plan now keys
  launched-commands past [] is = ap (commands_in plan) (sym is) ∙ sym (append-nil (commands_in plan past))
  launched-commands past (key ∷ keys) is =
      launched-commands (launch_of past key ∷ past) keys is ∙ go (starts_child (node_at plan key.node) key.phase)
    where
      same : facts_in plan now key ≡ facts_in plan (launch_of past key ∷ past) key
      same =
          let onto = launched-onto (launch_of past key ∷ past) keys in
          ap (λ (l : List Record). facts_in plan l key) (sym is ∙ onto.1)
          ∙ together plan onto.0 past key (launch_number past key) (subst (λ (l : List Record). is_lawful plan l ≡ true) (sym is ∙ onto.1) lawful) onto.2

      here : (key, phase_command (node_at plan key.node) key.attempt key.phase (facts_in plan (launch_of past key ∷ past) key)) ≡ command_in plan now key
      here = λ j. (key, phase_command (node_at plan key.node) key.attempt key.phase (sym same j))

      go : (b : Bool)
          → (if b then commands_in plan past ++ (key, phase_command (node_at plan key.node) key.attempt key.phase (facts_in plan (launch_of past key ∷ past) key)) ∷ [] else commands_in plan past)
          ++ commands_for plan now keys
          ≡ commands_in plan past ++ (if b then command_in plan now key ∷ commands_for plan now keys else commands_for plan now keys)
      go true =
          ap (λ (c : Command). (commands_in plan past ++ c ∷ []) ++ commands_for plan now keys) here
          ∙ append_assoc (commands_in plan past) (command_in plan now key ∷ []) (commands_for plan now keys)
      go false = refl

-- endings are no launches
ended-commands : (plan : Plan) (past : List Record) (owed : List (Key × Outcome)) → commands_in plan (added past (up_to_abort plan past (ends_of owed))) ≡ commands_in plan past
ended-commands plan past [] = refl
ended-commands plan past (end ∷ owed) = go (stops plan past (End end.0 end.1)) (ended-commands plan (End end.0 end.1 ∷ past) owed)
  where
    rest : List Record
    rest = up_to_abort plan (End end.0 end.1 ∷ past) (ends_of owed)

    go : (b : Bool) → commands_in plan (added (End end.0 end.1 ∷ past) rest) ≡ commands_in plan past
        → commands_in plan (added past (if b then End end.0 end.1 ∷ [] else End end.0 end.1 ∷ rest)) ≡ commands_in plan past
    go true later = refl
    go false later = later

-- what was handed over until a standing, and what is to be
record Hands (plan : Plan) (past : List Record) (call_log : List Call) (to : Standing) : Type 0 where
  own : List Command
  are : spawned (calls_of to) ≡ spawned call_log ++ own
  commands : commands_in plan (drive_records to) ≡ commands_in plan past ++ (own ++ commands_for plan (drive_records to) (keys_of to))
  few : length (keys_of to) ≤ most_at_once

module _ (limits : Limits) (plan : Plan) (may : Telling) (past : List Record) (call_log : List Call) where
  -- the first of a round was handed over
  spawned-first : (before : List Call) (records : List Record) (key : Key) (keys : List Key) (owed then_owed : List (Key × Outcome)) (command : ChildCommand) (answer : Started)
      → starts_child (node_at plan key.node) key.phase ≡ true → IsCommandIn plan records key command
      → Hands plan past call_log (At records before (key ∷ keys) owed) → Hands plan past call_log (At records (calls.Started key (snapshot_of command) answer ∷ before) keys then_owed)
  spawned-first before records key keys owed then_owed command answer child is h = record {
    own = h.own ++ (key, Ok command) ∷ [];
    are = ap (λ (l : List Command). l ++ (key, Ok command) ∷ []) h.are ∙ append_assoc (spawned call_log) h.own ((key, Ok command) ∷ []);
    commands =
        h.commands
        ∙ (λ j. commands_in plan past ++ (h.own
        ++ (if child j then command_in plan records key ∷ commands_for plan records keys else commands_for plan records keys)))
        ∙ (λ j. commands_in plan past ++ (h.own ++ (key, is j) ∷ commands_for plan records keys))
        ∙ ap (λ (l : List Command). commands_in plan past ++ l) (sym (append_assoc h.own ((key, Ok command) ∷ []) (commands_for plan records keys)));
    few = (let few = h.few in omega (arith, few));
  }

  step-hands : (from to : Standing) → IsStep limits plan may from to → Hands plan past call_log from → Hands plan past call_log to
  step-hands _ _ (launch_round {past = before} {keys = keys} lawful going unhalted step round) h = record {
    own = h.own;
    are = h.are;
    commands =
        launched-commands plan (launched before keys) (launch-all limits plan before keys lawful going round.chosen).lawful before keys refl
        ∙ ap (λ (l : List Command). l ++ commands_for plan (launched before keys) keys) (h.commands ∙ ap (λ (l : List Command). commands_in plan past ++ l) (append-nil h.own))
        ∙ append_assoc (commands_in plan past) h.own (commands_for plan (launched before keys) keys);
    few = round.few;
  }
  step-hands _ _ (skip_noop {past = now} {key = key} {keys = keys} quiet) h = record {
    own = h.own;
    are = h.are;
    commands = h.commands ∙ (λ j. commands_in plan past ++ (h.own
        ++ (if noop-quiet (node_at plan key.node) key.phase quiet j then command_in plan now key ∷ commands_for plan now keys else commands_for plan now keys)));
    few = (let few = h.few in omega (arith, few));
  }
  step-hands _ _ (spawn_child {past = now} {call_log = later_log} {key = key} {keys = keys} {owed = owed} {command = command} child is may_run) h =
      spawned-first later_log now key keys owed owed command Running child is h
  step-hands _ _ (spawn_failed {past = now} {call_log = later_log} {key = key} {keys = keys} {owed = owed} {command = command} child is may_be) h =
      spawned-first later_log now key keys owed (owed ++ (key, NoStart) ∷ []) command NotStarted child is h
  step-hands _ _ (child_exits step held halt ran may_be) h = record { own = h.own; are = h.are; commands = h.commands; few = h.few }
  step-hands _ _ (child_gathered gathers way held on few ran may_be) h = record { own = h.own; are = h.are; commands = h.commands; few = h.few }
  step-hands _ _ (ends_recorded {past = now} {end = end} {owed = owed}) h =
      record { own = h.own; are = h.are; commands = ended-commands plan now (end ∷ owed) ∙ h.commands; few = h.few }
  step-hands _ _ (see_halt may_halt unhalted) h = record { own = h.own; are = h.are; commands = h.commands; few = h.few }
  step-hands _ _ (kill_child ran free) h = record { own = h.own; are = h.are; commands = h.commands; few = h.few }

  goes-hands : (to : Standing) → Goes limits plan may (at_rest past call_log) to → Hands plan past call_log to
  goes-hands _ no_step = record { own = []; are = sym (append-nil (spawned call_log)); commands = sym (append-nil (commands_in plan past)); few = omega arith }
  goes-hands to (one_more {between = between} steps step) = step-hands between to step (goes-hands between steps)

  -- steps that were driven hand over the commands of their launches
  pub driven : (after : List Record) (last : List Call) → Drives limits plan may past call_log after last → SpawnsAll plan past after call_log last
  driven after last steps =
      let h = goes-hands (at_rest after last) steps in
      record { own = h.own; are = h.are; commands = h.commands ∙ ap (λ (l : List Command). commands_in plan past ++ l) (append-nil h.own) }

  rest-few : (records : List Record) (keys : List Key) → length (commands_for plan records keys) ≤ length keys
  rest-few records [] = omega arith
  rest-few records (key ∷ keys) = go (starts_child (node_at plan key.node) key.phase) (rest-few records keys)
    where
      go : (b : Bool) → length (commands_for plan records keys) ≤ length keys
          → length (if b then command_in plan records key ∷ commands_for plan records keys else commands_for plan records keys) ≤ suc (length keys)
      go true few = omega (arith, few)
      go false few = omega (arith, few)

  to-some : (after : List Record) (last : List Call) (keys : List Key) (owed : List (Key × Outcome)) → Goes limits plan may (at_rest past call_log) (At after last keys owed)
      → SpawnsAllButSome plan past after call_log last
  to-some after last keys owed steps =
      let h = goes-hands (At after last keys owed) steps in
      let most = h.few in
      let some = rest-few after keys in
      record { own = h.own; are = h.are; rest = commands_for plan after keys; few = omega (arith, most, some); commands = h.commands }

  pub halted-hands : (after : List Record) (last : List Call) → IsHalted limits plan may past call_log after last → SpawnsAllButSome plan past after call_log last
  halted-hands after last h = to-some after last h.keys h.owed h.steps

  -- so do those that a fault cut off
  pub by-fault-hands : (fault : DriveFault) (refused after : List Record) (last : List Call) → IsHaltedBy limits plan may past call_log fault refused after last → SpawnsAllButSome plan past after call_log last
  by-fault-hands fault refused after last h = to-some after last h.keys h.owed h.steps

kills-same : (call_log last : List Call) → Kills call_log last → spawned last ≡ spawned call_log
kills-same call_log _ nobody = refl
kills-same call_log _ (one_killed {later_log = later_log} {key = key} before ran first) = kills-same call_log later_log before

-- so do those that were stopped
pub stopped : (limits : Limits) (plan : Plan) (may : Telling) (past : List Record) (call_log : List Call) (fault : DriveFault) (refused after : List Record) (last : List Call)
    → IsStopped limits plan may past call_log fault refused after last → SpawnsAllButSome plan past after call_log last
stopped limits plan may past call_log fault refused after last s =
    let h = by-fault-hands limits plan may past call_log fault refused after s.rest s.halted in
    record { own = h.own; are = kills-same s.rest last s.kills ∙ h.are; rest = h.rest; few = h.few; commands = h.commands }
