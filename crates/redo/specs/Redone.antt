-- What the rescue file marks of a run, nodes of which are to run again.
use Rattle.std.specs.Prelude.{◌≡◌, ◌↔◌, ◌<◌, ◌&&◌, ℕ, Bool, true, false, not, List, [], map, filter, nat_lt, slice_index_or, if◌then◌else◌}
use Rattle.std.specs.List.{Contains, count_by, range_with_len}
use Rattle.dag_graph.specs.Graph.{children_of}
use Rattle.node_machine.specs.declared.Record.{Record}
use Rattle.rescue_file.specs.Written.{ordinary_names, rescue_text_of}
use Rattle.run_plan.specs.Plan.{Plan, count_of}
use Rattle.sched_core.specs.Run.{is_done}

-- An ordinary node that is named runs again; and so does, unless these alone are to, each child of a node that runs again.
pub data RunsAgain (plan : Plan) (only : Bool) (named : List ℕ) : ℕ → Type 0 where
  is_named : {node : ℕ} → node < count_of plan → Contains named node → RunsAgain plan only named node
  comes_after : {between node : ℕ} → only ≡ false → RunsAgain plan only named between → Contains (children_of plan.graph.dag between) node → RunsAgain plan only named node

-- just those nodes are marked that run again
abbrev pub AreAgain : Plan → Bool → List ℕ → List Bool → Type 0
AreAgain plan only named again = (node : ℕ) → (slice_index_or again node false ≡ true) ↔ RunsAgain plan only named node

-- a node stays done: it is done, and doesn't run again
abbrev pub stays_done : Plan → List Record → (again : List Bool) → ℕ → Bool
stays_done plan past again node = is_done plan past node && not (slice_index_or again node false)

-- the ordinary nodes that stay done
abbrev pub marks_kept : Plan → List Record → (again : List Bool) → List Bool
marks_kept plan past again = map (stays_done plan past again) (range_with_len 0 (count_of plan))

-- The text of the rescue file that marks each ordinary node of a run which is done and doesn't run again where these nodes are named, and
-- how many these are.
pub record IsRedone (plan : Plan) (past : List Record) (only : Bool) (named text : List ℕ) (done : ℕ) : Type 0 where
  pub again : List Bool
  pub are_again : AreAgain plan only named again
  pub text_is : text ≡ rescue_text_of (ordinary_names plan.graph.dag) (marks_kept plan past again)
  pub done_is : done ≡ count_by (λ mark. mark) (marks_kept plan past again)

-- those of some nodes that are ordinary
abbrev pub ordinary_ones : Plan → List ℕ → List ℕ
ordinary_ones plan named = filter (λ node. nat_lt node (count_of plan)) named

-- what comes next to a node in the search for those that run again: to FINAL's place, where it begins, the named ones come
abbrev pub next_again : Plan → Bool → List ℕ → ℕ → List ℕ
next_again plan only named node =
    if nat_lt node (count_of plan) then (if only then [] else children_of plan.graph.dag node) else ordinary_ones plan named
