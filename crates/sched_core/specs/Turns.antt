-- What a record makes of the nodes that it touches.
use Rattle.std.specs.Prelude.{◌≡◌, ℕ, suc, ◌+◌, ◌<◌, ◌==◌, Bool, false, not, ◌&&◌, ◌||◌, List, [], ◌∷◌, Option, Some, None, is_none, is_some, nat_lt, if◌then◌else◌}
use Rattle.node_machine.specs.NodeProgress.{NodeProgress}
use Rattle.node_machine.specs.declared.Record.{Record}
use Rattle.node_machine.specs.declared.Record.TheVariants.{Life, Launch, End, Finish}
use Rattle.run_plan.specs.Plan.{Plan, node_at, count_of}
use Rattle.sched_core.specs.declared.states.Looked.{Looked}
use Rattle.sched_core.specs.declared.advancing.Turn.{Turn}
use Rattle.sched_core.specs.Core.{run_at, has_abort_at, is_stuck_at}
use Rattle.sched_core.specs.Notes.{notes_at}
use Rattle.sched_core.specs.Run.{setting_is_met}
use Rattle.sched_core.specs.States.{NodeStates, left_at, done_at}

-- how often a number is among these
abbrev pub times : ℕ → List ℕ → ℕ
times x [] = 0
times x (y ∷ ys) = (if x == y then 1 else 0) + times x ys

-- a node's state was lent; its counter is that of the node until an abort
pub record IsLent (plan : Plan) (aborted : Bool) (states : NodeStates) (node : ℕ) (looked : Looked) : Type 0 where
  pub place : looked.node ≡ node
  pub within : node < suc (count_of plan)
  pub run : looked.state.run ≡ run_at states.runs node
  pub notes : looked.state.notes ≡ notes_at states.notes node
  pub left : aborted ≡ false → node < count_of plan → looked.state.parents_left ≡ left_at states.left node

-- that of a record's node
abbrev pub IsLentFor : Plan → Bool → NodeStates → Record → Option Looked → Type 0
IsLentFor plan aborted states Life looked = Unit {0}
IsLentFor plan aborted states (Launch key number) None = ⊥
IsLentFor plan aborted states (Launch key number) (Some looked) = IsLent plan aborted states key.node looked
IsLentFor plan aborted states (End key outcome) None = ⊥
IsLentFor plan aborted states (End key outcome) (Some looked) = IsLent plan aborted states key.node looked
IsLentFor plan aborted states (Finish status) looked = Unit {0}

-- a node whose phase ends is not done; where it is an ordinary one, there was no abort, and FINAL does not run
pub record IsEnding (plan : Plan) (aborted : Bool) (runs : List NodeProgress) (node : ℕ) : Type 0 where
  pub undone : done_at plan runs node ≡ false
  pub going : node < count_of plan → aborted ≡ false
  pub idle : node < count_of plan → (run_at runs (count_of plan)).running ≡ false

-- without a FINAL node nothing runs at its place
abbrev pub IsIdleFinal : Plan → List NodeProgress → Type 0
IsIdleFinal plan runs = is_some plan.final_node ≡ false → (run_at runs (count_of plan)).running ≡ false

abbrev pub IsOfTurn : Plan → Bool → List NodeProgress → Record → Type 0
IsOfTurn plan aborted runs Life = IsIdleFinal plan runs
IsOfTurn plan aborted runs (Launch key number) = Unit {0}
IsOfTurn plan aborted runs (End key outcome) = IsEnding plan aborted runs key.node
IsOfTurn plan aborted runs (Finish status) = Unit {0}

-- what an ordinary node comes to where it is so
abbrev pub turn_of : Plan → ℕ → NodeProgress → Turn
turn_of plan node run = record {
  aborts = nat_lt node (count_of plan) && setting_is_met (node_at plan node).course.abort_on run.machine.value;
  is_done = nat_lt node (count_of plan) && ((node_at plan node).done || (is_none run.machine.phase && run.machine.good));
  is_stuck = nat_lt node (count_of plan) && (not (node_at plan node).done && (is_none run.machine.phase && not run.machine.good));
}

-- the ordinary node whose phase a record ends has its abort value, is done, is in error
abbrev pub has_abort_by : Plan → List NodeProgress → Record → Bool
has_abort_by plan runs (End key outcome) = has_abort_at plan runs key.node
has_abort_by plan runs _ = false

abbrev pub done_by : Plan → List NodeProgress → Record → Bool
done_by plan runs (End key outcome) = nat_lt key.node (count_of plan) && done_at plan runs key.node
done_by plan runs _ = false

abbrev pub stuck_by : Plan → List NodeProgress → Record → Bool
stuck_by plan runs (End key outcome) = is_stuck_at plan runs key.node
stuck_by plan runs _ = false
