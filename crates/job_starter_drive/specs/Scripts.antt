-- How the children of a scripted starter end.
use Rattle.std.specs.Prelude.{◌≡◌, ℕ, List, [], Some, nat_le, IsTrue, if◌then◌else◌}
use Rattle.node_machine.specs.declared.Key.{Key}
use Rattle.node_machine.specs.declared.Outcome.{Outcome}
use Rattle.node_machine.specs.declared.Outcome.TheVariants.{Exit}
use Rattle.node_machine.specs.OutcomeTable.{Entry, outcome_at}
use Rattle.run_plan.specs.Plan.{Plan, node_at, count_of}
use Rattle.sched_core.specs.Run.{is_among}
use Rattle.job_starter_drive.specs.declared.Call.{Call}
use Rattle.job_starter_drive.specs.Calls.{running, oldest, Telling}

-- the table's outcome at the name of the key's node; a key of no node exits with 0
abbrev pub scripted_outcome : Plan → List Entry → Key → Outcome
scripted_outcome plan table key =
    if nat_le key.node (count_of plan)
    then outcome_at table (node_at plan key.node).name key.attempt key.phase
    else Exit 0

-- What a script tells after these calls: the table's outcome; and of the children that run the end of the one that was started first, where
-- no places are listed.
pub record IsInScript (plan : Plan) (table : List Entry) (places : List ℕ) (call_log : List Call) (key : Key) (outcome : Outcome) : Type 0 where
  pub by_table : outcome ≡ scripted_outcome plan table key
  pub oldest_first : places ≡ [] → IsTrue (is_among key (running call_log)) → oldest (running call_log) ≡ Some key

-- It reports one ending at a time, each recorded before the next, and it halts no run.
abbrev pub IsScripted : Plan → List Entry → List ℕ → Telling
IsScripted plan table places = record { may_be = IsInScript plan table places; gathers = ⊥; may_halt = ⊥ }
