-- The command of each phase of a run: by the outcomes of a table, and by the records.
use Rattle.std.specs.Prelude.{ℕ, ℤ, Bool, true, false, ◌==◌, List, [], ◌∷◌, if◌then◌else◌}
use Rattle.node_machine.specs.declared.Phase.{Phase}
use Rattle.node_machine.specs.declared.Phase.TheVariants.{Pre, Job}
use Rattle.node_machine.specs.declared.Key.{Key}
use Rattle.node_machine.specs.declared.Ended.{Ended}
use Rattle.node_machine.specs.Story.{Table}
use Rattle.run_plan_node.specs.declared.command.PhaseFacts.{PhaseFacts}
use Rattle.run_plan.specs.Plan.{Plan, node_at, count_of}
use Rattle.run_plan_node.specs.Commands.{CommandOrFault, phase_command}
use Rattle.node_machine.specs.declared.Record.{Record}
use Rattle.node_machine.specs.declared.Record.TheVariants.{Launch}
use Rattle.sched_core.specs.Run.{table_of, is_in_error, is_aborted, is_same}
use Rattle.sched_core.specs.AttemptValues.{job_value_of, pre_value_of}
use Rattle.sched_core.specs.Bound.{sum_below}
use Rattle.sched_core.specs.EveryRun.{key_of, plain_by, with_plain}

-- what is known of an attempt whose job and PRE have these values, and nothing of the whole run
abbrev pub plain_facts : ℤ → ℤ → PhaseFacts
plain_facts job_value pre_value = record {
  launch = 0;
  job_launch = 0;
  job_value = job_value;
  pre_value = pre_value;
  dag_status = 0;
  failed = 0;
}

-- how many ordinary nodes are in error
abbrev pub failed_in : Plan → List Record → ℕ
failed_in plan past = sum_below (λ node. if is_in_error plan past node then 1 else 0) (count_of plan)

-- the state of the DAG: 3 where it was aborted, else 2 where an ordinary node is in error, else 0
abbrev pub dag_status_in : Plan → List Record → ℕ
dag_status_in plan past = if is_aborted plan past then 3 else if failed_in plan past == 0 then 0 else 2

-- the number of the newest launch of a key; 0 where there is none
abbrev pub newest_launch : List Record → Key → ℕ
newest_launch [] key = 0
newest_launch (Launch other number ∷ past) key = if is_same other key then number else newest_launch past key
newest_launch (_ ∷ past) key = newest_launch past key

-- What the records say when a key is launched, its launch among them. A job that did not end has the value 0, and -1004
-- after a failed PRE, where it does not run.
abbrev pub facts_in : Plan → List Record → Key → PhaseFacts
facts_in plan records key = record {
  launch = newest_launch records key;
  job_launch = newest_launch records (record key { phase = Job });
  job_value = job_value_of (node_at plan key.node).course (table_of records key.node key.attempt Pre)
      (table_of records key.node key.attempt Job);
  pre_value = pre_value_of (node_at plan key.node).course (table_of records key.node key.attempt Pre);
  dag_status = dag_status_in plan records;
  failed = failed_in plan records;
}

abbrev pub is_launch : Record → Bool
is_launch (Launch key number) = true
is_launch _ = false

-- what is handed over at a launch, by the records, the launch among them
abbrev pub command_of_launch : Plan → List Record → Key → CommandOrFault
command_of_launch plan records key = phase_command (node_at plan key.node) key.attempt key.phase (facts_in plan records key)

-- the command of a key by the values of the job and of PRE alone
abbrev pub plain_command : Plan → Key → ℤ × ℤ → CommandOrFault
plain_command plan key values = phase_command (node_at plan key.node) key.attempt key.phase (plain_facts values.0 values.1)

-- the command of a phase in an attempt, read from the table
abbrev pub command_by : Plan → Table → ℕ → ℕ → Phase → CommandOrFault
command_by plan table node attempt phase = plain_by plan table (plain_command plan) (key_of node attempt phase)

-- of phases of a node those that start a child, each with its command
abbrev pub with_commands : Plan → Table → ℕ → List Ended → List (Ended × CommandOrFault)
with_commands plan table node phases = with_plain plan table (plain_command plan) node phases
