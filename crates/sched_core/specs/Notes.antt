-- What a core notes of each node's newest attempt, so that the facts of a launch are there without a look at the records.
use Rattle.std.specs.Prelude.{◌≡◌, ℕ, suc, ◌<◌, Bool, List, [], ◌∷◌, length, Option, Some, None, is_none, unwrap_or, slice_get, slice_set, ◌==◌, if◌then◌else◌}
use Rattle.node_machine.specs.declared.Phase.{Phase}
use Rattle.node_machine.specs.declared.Phase.TheVariants.{Pre, Job, Post}
use Rattle.node_machine.specs.declared.Outcome.{Outcome}
use Rattle.node_machine.specs.declared.Key.{Key}
use Rattle.node_machine.specs.declared.Outcome.TheVariants.{Exit}
use Rattle.node_machine.specs.declared.Course.{Course}
use Rattle.node_machine.specs.Story.{phase_number}
use Rattle.run_plan_node.specs.declared.command.PhaseFacts.{PhaseFacts}
use Rattle.run_plan.specs.Plan.{Plan, count_of}
use Rattle.node_machine.specs.declared.Record.{Record}
use Rattle.node_machine.specs.declared.Record.TheVariants.{Life, Launch, End, Finish}
use Rattle.sched_core.specs.declared.notes.AttemptNotes.{AttemptNotes}
use Rattle.sched_core.specs.Run.{is_same}
use Rattle.sched_core.specs.Commands.{newest_launch, failed_in}
use Rattle.sched_core.specs.AttemptValues.{job_value_of, pre_value_of}

-- the outcome that a record says of a phase, and the one that the oldest record that says one does
abbrev pub ended_by : Record → Key → Option Outcome
ended_by (End other outcome) key = if is_same other key then Some outcome else None
ended_by _ key = None

abbrev pub first_ended : List Record → Key → Option Outcome
first_ended [] key = None
first_ended (newest ∷ past) key = if is_none (first_ended past key) then ended_by newest key else first_ended past key

-- the attempt of a node's newest launch, and its number; 0 where there is none
abbrev pub newest_launch_attempt : List Record → ℕ → ℕ
newest_launch_attempt [] node = 0
newest_launch_attempt (Launch key number ∷ past) node = if key.node == node then key.attempt else newest_launch_attempt past node
newest_launch_attempt (_ ∷ past) node = newest_launch_attempt past node

abbrev pub last_launch : List Record → ℕ → ℕ
last_launch [] node = 0
last_launch (Launch key number ∷ past) node = if key.node == node then number else last_launch past node
last_launch (_ ∷ past) node = last_launch past node

abbrev pub phase_key : ℕ → ℕ → Phase → Key
phase_key node attempt phase = record { node = node; attempt = attempt; phase = phase }

-- what the records say of an attempt, where this is the number of its node's newest launch
abbrev pub notes_in : List Record → ℕ → ℕ → ℕ → AttemptNotes
notes_in past node attempt launch = record {
  attempt = attempt;
  launch = launch;
  job_launch = newest_launch past (phase_key node attempt Job);
  pre = first_ended past (phase_key node attempt Pre);
  job = first_ended past (phase_key node attempt Job);
}

-- what they say of a node's newest attempt
abbrev pub notes_of : List Record → ℕ → AttemptNotes
notes_of past node = notes_in past node (newest_launch_attempt past node) (last_launch past node)

-- what is noted of an attempt before anything of it is launched
abbrev pub no_notes : ℕ → AttemptNotes
no_notes attempt = record { attempt = attempt; launch = 0; job_launch = 0; pre = None; job = None }

abbrev pub notes_at : List AttemptNotes → ℕ → AttemptNotes
notes_at notes node = unwrap_or (slice_get notes node) (no_notes 0)

-- what the launch of a phase makes of them, and the end of one
abbrev pub launched_in : AttemptNotes → Phase → ℕ → AttemptNotes
launched_in notes phase number =
    record notes { launch = number; job_launch = if phase_number phase == 1 then number else notes.job_launch }

abbrev pub with_launch : AttemptNotes → Key → ℕ → AttemptNotes
with_launch notes key number =
    launched_in (if key.attempt == notes.attempt then notes else no_notes key.attempt) key.phase number

abbrev pub with_phase_outcome : AttemptNotes → Phase → Outcome → AttemptNotes
with_phase_outcome notes Pre outcome = record notes { pre = if is_none notes.pre then Some outcome else notes.pre }
with_phase_outcome notes Job outcome = record notes { job = if is_none notes.job then Some outcome else notes.job }
with_phase_outcome notes Post outcome = notes

abbrev pub notes_after : List AttemptNotes → Record → List AttemptNotes
notes_after notes Life = notes
notes_after notes (Launch key number) = slice_set notes key.node (with_launch (notes_at notes key.node) key number)
notes_after notes (End key outcome) = slice_set notes key.node (with_phase_outcome (notes_at notes key.node) key.phase outcome)
notes_after notes (Finish status) = notes

-- the facts of a launch, by what is noted of its attempt; a job that did not end has the value 0, and -1004 after a failed PRE
abbrev pub noted_facts : Course → AttemptNotes → Bool → ℕ → PhaseFacts
noted_facts course notes aborted failed = record {
  launch = notes.launch;
  job_launch = notes.job_launch;
  job_value = job_value_of course (unwrap_or notes.pre (Exit 0)) (unwrap_or notes.job (Exit 0));
  pre_value = pre_value_of course (unwrap_or notes.pre (Exit 0));
  dag_status = if aborted then 3 else if failed == 0 then 0 else 2;
  failed = failed;
}

-- what is noted is what the records say
pub record AreNotes (plan : Plan) (past : List Record) (notes : List AttemptNotes) : Type 0 where
  pub many : length notes ≡ suc (count_of plan)
  pub each : (node : ℕ) → node < suc (count_of plan) → notes_at notes node ≡ notes_of past node

-- and so is the count of the ordinary nodes in error
pub record IsNoted (plan : Plan) (past : List Record) (notes : List AttemptNotes) (failed : ℕ) : Type 0 where
  pub are_notes : AreNotes plan past notes
  pub failed_is : failed ≡ failed_in plan past
