-- The states of the nodes, as what lends them keeps them, and what they say.
use Rattle.std.specs.Prelude.{◌≡◌, ℕ, suc, ◌+◌, ◌<◌, Bool, false, not, ◌&&◌, ◌||◌, ◌==◌, List, [], ◌∷◌, length, slice_get, unwrap_or, is_none, if◌then◌else◌}
use Rattle.node_machine.specs.NodeProgress.{NodeProgress}
use Rattle.run_plan.specs.Plan.{Plan, node_at, count_of}
use Rattle.sched_core.specs.declared.notes.AttemptNotes.{AttemptNotes}
use Rattle.sched_core.specs.declared.states.NodeState.{NodeState}
use Rattle.sched_core.specs.Core.{run_at, node_progress, AreFresh}
use Rattle.sched_core.specs.Notes.{notes_at, notes_of, AreNotes}
use Rattle.sched_core.specs.Run.{is_aborted, is_done}
use Rattle.node_machine.specs.declared.Record.{Record}

-- of each node, FINAL's place after the others, how it is, what is noted of its newest attempt, and how many of its
-- parents are not done; and how many states were lent
pub record NodeStates : Type 0 where
  pub runs : List NodeProgress
  pub notes : List AttemptNotes
  pub left : List ℕ
  pub looks : ℕ

abbrev pub left_at : List ℕ → ℕ → ℕ
left_at left node = unwrap_or (slice_get left node) 0

-- where the nodes stand so, a node is done
abbrev pub done_at : Plan → List NodeProgress → ℕ → Bool
done_at plan runs node =
    (node_at plan node).done || (is_none (run_at runs node).machine.phase && (run_at runs node).machine.good)

-- how many of these are not done
abbrev pub undone_in : (ℕ → Bool) → List ℕ → ℕ
undone_in done [] = 0
undone_in done (node ∷ nodes) = (if done node then 0 else 1) + undone_in done nodes

-- an ordinary node, of which it is given whether it is done from the start, may be launched where it is so and so many of its
-- parents are not done
abbrev pub is_ready_by : Bool → Bool → NodeProgress → ℕ → Bool
is_ready_by done aborted run left =
    not aborted && ((left == 0) && (not done && (not (is_none run.machine.phase) && not run.running)))

abbrev pub is_ready_at : Plan → Bool → List NodeProgress → List ℕ → ℕ → Bool
is_ready_at plan aborted runs left node =
    is_ready_by (node_at plan node).done aborted (run_at runs node) (left_at left node)

-- there is a state for each node and for FINAL's place
pub record AreMany (plan : Plan) (states : NodeStates) : Type 0 where
  pub runs : length states.runs ≡ suc (count_of plan)
  pub notes : length states.notes ≡ suc (count_of plan)
  pub left : length states.left ≡ suc (count_of plan)

-- until an abort each counter is of the parents that are not done
pub record AreLeft (plan : Plan) (aborted : Bool) (runs : List NodeProgress) (left : List ℕ) : Type 0 where
  pub many : length left ≡ suc (count_of plan)
  pub each : aborted ≡ false → (node : ℕ) → node < count_of plan
      → left_at left node ≡ undone_in (done_at plan runs) (node_at plan node).parents

-- a node's state, as they have it
pub record IsStateAt (states : NodeStates) (node : ℕ) (state : NodeState) : Type 0 where
  pub run : state.run ≡ run_at states.runs node
  pub notes : state.notes ≡ notes_at states.notes node
  pub left : state.parents_left ≡ left_at states.left node

-- and as the records have it
pub record IsStateOf (plan : Plan) (past : List Record) (node : ℕ) (state : NodeState) : Type 0 where
  pub run : state.run ≡ node_progress plan past node
  pub notes : state.notes ≡ notes_of past node
  pub left : is_aborted plan past ≡ false → node < count_of plan
      → state.parents_left ≡ undone_in (is_done plan past) (node_at plan node).parents

-- the counters before any record
pub record AreLeftAtFirst (plan : Plan) (left : List ℕ) : Type 0 where
  pub many : length left ≡ suc (count_of plan)
  pub each : (node : ℕ) → node < count_of plan
      → left_at left node ≡ undone_in (λ parent. (node_at plan parent).done) (node_at plan node).parents

-- the states before any record
pub record AreNew (plan : Plan) (states : NodeStates) : Type 0 where
  pub runs : AreFresh plan states.runs
  pub notes : AreNotes plan [] states.notes
  pub left : AreLeftAtFirst plan states.left
  pub looks : states.looks ≡ 0
