-- A core as contracts see it, and what it keeps beside its records.
use Rattle.std.specs.Prelude.{◌≡◌, ℕ, suc, ◌+◌, ◌<◌, Bool, true, false, not, ◌&&◌, ◌||◌, List, [], ◌∷◌, length, map, Option, Some, None, is_none, nat_lt, unwrap_or, slice_get, slice_set, IsTrue, ◌==◌, if◌then◌else◌}
use Rattle.node_machine.specs.declared.Key.{Key}
use Rattle.node_machine.specs.Story.{phase_number}
use Rattle.node_machine.specs.MachineState.{machine_after, machine_before, next_of}
use Rattle.node_machine.specs.NodeRun.{started, stopped, ended_with}
use Rattle.throttles.specs.declared.Limits.{Limits}
use Rattle.ready_queue.specs.Queue.{comes_before}
use Rattle.sched_core.specs.Limits.{member_of, IsBetter}
use Rattle.sched_core.specs.Choices.{startable}
use Rattle.run_plan_node.specs.Node.{no_node}
use Rattle.run_plan.specs.Plan.{Plan, node_at, count_of, all_below}
use Rattle.node_machine.specs.NodeProgress.{NodeProgress}
use Rattle.sched_core.specs.declared.CoreFault.{CoreFault}
use Rattle.sched_core.specs.declared.CoreFault.TheVariants.{NotLawful, Finished}
use Rattle.node_machine.specs.declared.Record.{Record}
use Rattle.node_machine.specs.declared.Record.TheVariants.{Life, Launch, End, Finish}
use Rattle.sched_core.specs.Run.{history, next, is_done, outstanding, is_aborted, is_lawful, job_launches, setting_is_met, is_over}

-- the plan, the limits, the records, the newest first, how many more need no memory, and how many states of nodes were looked
-- at to apply records
pub record Progress : Type 0 where
  pub plan : Plan
  pub limits : Limits
  pub past : List Record
  pub room : ℕ
  pub looks : ℕ

-- one of the keys is of this node
abbrev pub has_key_of : ℕ → List Key → Bool
has_key_of node [] = false
has_key_of node (key ∷ keys) = (key.node == node) || has_key_of node keys

-- a phase of the node is outstanding
abbrev pub is_running : Plan → List Record → ℕ → Bool
is_running plan past node = has_key_of node (outstanding plan past)

-- what a core keeps of a node
abbrev pub node_progress : Plan → List Record → ℕ → NodeProgress
node_progress plan past node = record {
  course = (node_at plan node).course;
  machine = machine_after (node_at plan node).course (history past node);
  running = is_running plan past node;
}

abbrev pub idle : NodeProgress
idle = record { course = no_node.course; machine = machine_before no_node.course 0 None false; running = false }

abbrev pub run_at : List NodeProgress → ℕ → NodeProgress
run_at runs node = unwrap_or (slice_get runs node) idle

-- whether an ordinary node's abort value is there
abbrev pub aborted_in : Plan → List NodeProgress → Bool
aborted_in plan runs =
    not (all_below (λ node. not (setting_is_met (node_at plan node).course.abort_on (run_at runs node).machine.value))
    (count_of plan))

-- an ordinary node's abort value is there
abbrev pub has_abort_at : Plan → List NodeProgress → ℕ → Bool
has_abort_at plan runs node =
    nat_lt node (count_of plan) && setting_is_met (node_at plan node).course.abort_on (run_at runs node).machine.value

-- an ordinary node is in error there
abbrev pub is_stuck_at : Plan → List NodeProgress → ℕ → Bool
is_stuck_at plan runs node =
    nat_lt node (count_of plan)
    && (not (node_at plan node).done && (is_none (run_at runs node).machine.phase && not (run_at runs node).machine.good))

-- what a record makes of the nodes, of the flag for an abort, and of the number of job launches
abbrev pub runs_ended : Plan → List NodeProgress → Record → List NodeProgress
runs_ended plan runs (End key outcome) = slice_set runs key.node (ended_with (run_at runs key.node) outcome)
runs_ended plan runs _ = runs

abbrev pub aborted_after : Plan → List NodeProgress → Bool → Record → Bool
aborted_after plan runs aborted (End key outcome) = aborted_in plan (runs_ended plan runs (End key outcome))
aborted_after plan runs aborted _ = aborted

abbrev pub runs_after : Plan → List NodeProgress → Bool → Record → List NodeProgress
runs_after plan runs aborted Life = map stopped runs
runs_after plan runs aborted (Launch key number) = slice_set runs key.node (started (run_at runs key.node))
runs_after plan runs aborted (End key outcome) =
    let now = runs_ended plan runs (End key outcome) in
    if aborted_in plan now && not aborted then map stopped now else now
runs_after plan runs aborted (Finish status) = runs

abbrev pub jobs_after : ℕ → Record → ℕ
jobs_after jobs (Launch key number) = (if phase_number key.phase == 1 then 1 else 0) + jobs
jobs_after jobs _ = jobs

-- a launch is of a node of the plan and of its next phase, while none runs; an ending is of one that runs,
-- whose abort value doesn't stand there
abbrev pub TakesRecord : Plan → List NodeProgress → Record → Type 0
TakesRecord plan runs Life = Unit {0}
TakesRecord plan runs (Launch key number) =
    (key.node < suc (count_of plan)) × ((run_at runs key.node).running ≡ false)
    × (next_of (run_at runs key.node).machine (run_at runs key.node).machine.phase ≡ Some (key.attempt, key.phase))
TakesRecord plan runs (End key outcome) =
    (key.node < suc (count_of plan)) × ((run_at runs key.node).running ≡ true)
    × (has_abort_at plan runs key.node ≡ false)
TakesRecord plan runs (Finish status) = Unit {0}

-- what a core keeps is what its records say, and these are lawful
pub record Shows (plan : Plan) (past : List Record) (runs : List NodeProgress) (aborted : Bool) (jobs : ℕ) : Type 0 where
  pub many : length runs ≡ suc (count_of plan)
  pub runs_are : (node : ℕ) → node < suc (count_of plan) → run_at runs node ≡ node_progress plan past node
  pub aborted_is : aborted ≡ is_aborted plan past
  pub jobs_are : jobs ≡ job_launches past
  pub lawful : IsTrue (is_lawful plan past)

-- what a core keeps before any record
pub record AreFresh (plan : Plan) (runs : List NodeProgress) : Type 0 where
  pub many : length runs ≡ suc (count_of plan)
  pub each : (node : ℕ) → node < suc (count_of plan) → run_at runs node ≡ node_progress plan [] node

-- why a record is refused
abbrev pub fault_after : List Record → CoreFault
fault_after past = if is_over past then Finished else NotLawful

-- of the nodes of which this holds the best whose phase may be launched and is let in, if there is one
abbrev pub IsBestOf : Limits → Plan → List Record → (ℕ → Type 0) → Option Key → Type 0
IsBestOf limits plan past those None = (node : ℕ) → those node → startable limits plan past node ≡ None
IsBestOf limits plan past those (Some key) =
    (startable limits plan past key.node ≡ Some key) × those key.node
    × ((node : ℕ) (other : Key) → those node → startable limits plan past node ≡ Some other → IsBetter plan node key.node → ⊥)

-- of the nodes below a number
abbrev pub IsBestBelow : Limits → Plan → List Record → ℕ → Option Key → Type 0
IsBestBelow limits plan past n best = IsBestOf limits plan past (λ node. node < n) best

-- the better of two phases
abbrev pub better_of : Plan → Option Key → Option Key → Option Key
better_of plan None next = next
better_of plan (Some best) None = Some best
better_of plan (Some best) (Some next) = if comes_before (member_of plan next.node) (member_of plan best.node) then Some next else Some best

-- one mark for each ordinary node: whether it is done
pub record AreDoneMarks (plan : Plan) (past : List Record) (marks : List Bool) : Type 0 where
  pub many : length marks ≡ count_of plan
  pub each : (node : ℕ) → node < count_of plan → unwrap_or (slice_get marks node) false ≡ is_done plan past node
