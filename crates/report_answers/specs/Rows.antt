-- The rows of a page, and how its round is.
use Rattle.std.specs.Prelude.{◌≡◌, ℕ, Bool, ◌==◌, List, [], ◌∷◌, ◌++◌, length, if◌then◌else◌}
use Rattle.node_machine.specs.declared.Record.{Record}
use Rattle.run_plan.specs.Plan.{Plan, node_at, count_of}
use Rattle.sched_core.specs.Run.{attempts_in, value_in, is_over, exit_status}
use Rattle.status_report.specs.declared.status.Status.{Status}
use Rattle.status_report.specs.declared.status.Status.TheVariants as status
use Rattle.status_report.specs.Status.{status_at}
use Rattle.status_report.specs.Text.{reported}
use Rattle.graph_text.specs.Folding.{IsFolding}
use Rattle.report_page.specs.declared.values.NodeState.{NodeState}
use Rattle.report_page.specs.declared.values.NodeState.TheVariants as state
use Rattle.report_page.specs.declared.values.RoundState.{RoundState}
use Rattle.report_page.specs.declared.values.RoundState.TheVariants as round
use Rattle.report_page.specs.declared.values.Row.{Row}

-- where a node is, in the words of a page
abbrev pub page_state_of : Status → NodeState
page_state_of status.Done = state.Done
page_state_of status.Error = state.Error
page_state_of status.PreRun = state.PreRun
page_state_of status.Submitted = state.Submitted
page_state_of status.PostRun = state.PostRun
page_state_of status.Ready = state.Ready
page_state_of status.NotReady = state.NotReady

-- A row is that of a node: with its name, its state, its attempts and its value, as `status` has them, its parents, and the first node of its class.
pub record IsRowOf (plan : Plan) (past : List Record) (class_of : ℕ → ℕ) (node : ℕ) (row : Row) : Type 0 where
  pub name : row.name.now ≡ (node_at plan node).name
  pub state : row.state ≡ page_state_of (status_at plan past node)
  pub attempts : row.attempts ≡ attempts_in plan past node
  pub value : row.value ≡ value_in plan past node
  pub parents : row.parents.now ≡ (node_at plan node).parents
  pub is_final : row.is_final ≡ (node == count_of plan)
  pub alike : row.alike ≡ class_of node

-- these are the rows of the first nodes, in plan order
pub data HasRows (plan : Plan) (past : List Record) (class_of : ℕ → ℕ) : List Row → Type 0 where
  no_row : HasRows plan past class_of []
  one_more_row : (rows : List Row) (row : Row) → HasRows plan past class_of rows → IsRowOf plan past class_of (length rows) row →
      HasRows plan past class_of (rows ++ row ∷ [])

-- These are the rows of all nodes, the FINAL node last. Nodes that are said to be alike may be folded, as `graph --fold` folds them: they have the same
-- submit file and folder, and parents and children that are alike.
pub record AreRows (plan : Plan) (past : List Record) (rows : List Row) : Type 0 where
  pub class_of : ℕ → ℕ
  pub folding : IsFolding plan class_of
  pub each : HasRows plan past class_of rows
  pub all : length rows ≡ reported plan

-- How a round is: it has ended with the exit status that its records give; or a manager runs it; or none does, and it has a journal or none.
abbrev pub round_state_of : Plan → List Record → (begun at_work : Bool) → RoundState
round_state_of plan past begun at_work =
    if is_over past then round.Ended (exit_status plan past)
    else if at_work then round.Runs
    else if begun then round.CutShort
    else round.NotBegun
