-- The commands that a run handed over.
use Rattle.std.specs.Prelude.{◌≡◌, ◌≤◌, List, [], ◌∷◌, ◌++◌, length, Ok}
use Rattle.run_plan.specs.Plan.{Plan}
use Rattle.node_machine.specs.declared.Record.{Record}
use Rattle.recovery_manager.specs.Chain.{Command, commands_in}
use Rattle.job_starter_drive.specs.declared.Call.{Call}
use Rattle.job_starter_drive.specs.declared.Call.TheVariants as calls
use Rattle.job_starter_drive.specs.Drives.{most_at_once}

-- the commands of the children that were to be started, the oldest first
abbrev pub spawned : List Call → List Command
spawned [] = []
spawned (calls.Started key command answer ∷ call_log) = spawned call_log ++ (key, Ok command.value) ∷ []
spawned (_ ∷ call_log) = spawned call_log

-- from these records and calls on, the commands of the own launches were handed over, once each and in their order
pub record SpawnsAll (plan : Plan) (begun held : List Record) (call_log later_log : List Call) : Type 0 where
  pub own : List Command
  pub are : spawned later_log ≡ spawned call_log ++ own
  pub commands : commands_in plan held ≡ commands_in plan begun ++ own

-- the same, but perhaps for the last launches, which are of one round
pub record SpawnsAllButSome (plan : Plan) (begun held : List Record) (call_log later_log : List Call) : Type 0 where
  pub own : List Command
  pub are : spawned later_log ≡ spawned call_log ++ own
  pub rest : List Command
  pub few : length rest ≤ most_at_once
  pub commands : commands_in plan held ≡ commands_in plan begun ++ (own ++ rest)
