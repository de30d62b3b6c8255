-- The critical path: the phases for which the end of a run waited. Phases go by their places among all phases, which are in the order in which they began.
use Rattle.std.specs.Prelude.{◌≡◌, ◌≢◌, ℕ, ◌<◌, ◌≤◌, max, Bool, ◌==◌, nat_lt, List, [], ◌∷◌, length, position, Option, Some, None, slice_get, slice_index, slice_index_or, if◌then◌else◌}
use Rattle.std.specs.List.{list_any}
use Rattle.std.specs.Str.{bytes_eq}
use Rattle.dag_graph.specs.Graph.{Network, names_of, parents_of}
use Rattle.run_times.specs.declared.runs.PhaseRun.{PhaseRun}
use Rattle.run_times.specs.Canvas.{end_in}

-- a number of a node if it is an ordinary one, of so many
abbrev pub ordinary_in : ℕ → Option ℕ → Option ℕ
ordinary_in count (Some node) = if nat_lt node count then Some node else None
ordinary_in count None = None

-- the number of the ordinary node of a phase; none for FINAL, and where the files have no such node
unfoldable pub run_node_of : Network → PhaseRun → Option ℕ
run_node_of graph run = ordinary_in (length graph.dag.nodes) (position (bytes_eq run.node.now) (names_of graph.dag))

-- the same of the phase at a place
abbrev pub run_node_in : Network → Option PhaseRun → Option ℕ
run_node_in graph (Some run) = run_node_of graph run
run_node_in graph None = None

abbrev pub run_node_at : Network → List PhaseRun → ℕ → Option ℕ
run_node_at graph runs place = run_node_in graph (slice_get runs place)

-- when the phase at a place ended
abbrev pub run_end_at : List PhaseRun → ℕ → ℕ
run_end_at runs place = end_in (slice_get runs place)

-- of two phases the one that ended later; of two that ended in the same moment the one that comes later
abbrev pub later_of : List PhaseRun → Option ℕ → ℕ → ℕ
later_of runs (Some one) other =
    if nat_lt (run_end_at runs one) (run_end_at runs other) then other
    else if nat_lt (run_end_at runs other) (run_end_at runs one) then one
    else max one other
later_of runs None other = other

-- the same, where there are both
abbrev pub latest_with : List PhaseRun → Option ℕ → Option ℕ → Option ℕ
latest_with runs latest (Some place) = Some (later_of runs latest place)
latest_with runs latest None = latest

-- a phase ended no later than another one; if both ended in the same moment, it is that one or comes before it
pub record IsNoLater (runs : List PhaseRun) (place latest : ℕ) : Type 0 where
  pub ended : run_end_at runs place ≤ run_end_at runs latest
  pub same : run_end_at runs place ≡ run_end_at runs latest → place ≤ latest

-- of the phases of a kind the one that ended last, and of those that ended in the same moment the one that comes last; none, where there is no such phase
abbrev pub IsLatestOf : List PhaseRun → (ℕ → Type 0) → Option ℕ → Type 0
IsLatestOf runs Of (Some latest) = Of latest × ((place : ℕ) → Of place → IsNoLater runs place latest)
IsLatestOf runs Of None = (place : ℕ) → Of place → ⊥

-- the last phase of a node before a place; none, where there is no such phase
abbrev pub IsLastOf : Network → List PhaseRun → ℕ → ℕ → Option ℕ → Type 0
IsLastOf graph runs node place (Some last) =
    (last < place) × (run_node_at graph runs last ≡ Some node) × ((other : ℕ) → last < other → other < place → run_node_at graph runs other ≢ Some node)
IsLastOf graph runs node place None = (other : ℕ) → other < place → run_node_at graph runs other ≢ Some node

-- a phase is the last one of a parent of a node before a place
pub record IsLastOfParent (graph : Network) (runs : List PhaseRun) (node place last : ℕ) : Type 0 where
  pub index : ℕ
  pub inside : index < length (parents_of graph.dag node)
  pub is : IsLastOf graph runs (slice_index (parents_of graph.dag node) index) place (Some last)

-- For which phase the one at a place waited: for the last one before it of the same node; where there is none, for the one that ended last among the last ones of the
-- parents; and a phase of FINAL for the one that ended last of all before it.
pub data WaitsFor (graph : Network) (runs : List PhaseRun) (place : ℕ) : Option ℕ → Type 0 where
  for_same : (node last : ℕ) → run_node_at graph runs place ≡ Some node → IsLastOf graph runs node place (Some last) → WaitsFor graph runs place (Some last)
  for_parents : (node : ℕ) (latest : Option ℕ) → run_node_at graph runs place ≡ Some node → IsLastOf graph runs node place None
      → IsLatestOf runs (λ last. IsLastOfParent graph runs node place last) latest → WaitsFor graph runs place latest
  for_all : (latest : Option ℕ) → run_node_at graph runs place ≡ None → IsLatestOf runs (λ other. other < place) latest → WaitsFor graph runs place latest

-- a chain of phases, from the last back: after each the one for which it waited, up to one that waited for none
pub data IsChain (graph : Network) (runs : List PhaseRun) : Option ℕ → List ℕ → Type 0 where
  chain_end : IsChain graph runs None []
  chain_more : (place : ℕ) (before : Option ℕ) (rest : List ℕ) → place < length runs → WaitsFor graph runs place before → IsChain graph runs before rest
      → IsChain graph runs (Some place) (place ∷ rest)

-- The critical path, from the last phase back: it begins with the one that ended last of all, if there are any phases. So there is one such path.
pub record IsCriticalPath (graph : Network) (runs : List PhaseRun) (path : List ℕ) : Type 0 where
  pub latest : Option ℕ
  pub ended_last : IsLatestOf runs (λ place. place < length runs) latest
  pub chain : IsChain graph runs latest path

-- a phase is on the path
abbrev pub is_on_path : List ℕ → ℕ → Bool
is_on_path path place = list_any (λ one. one == place) path

-- a mark for each of so many phases: whether it is on the path
pub record AreMarksOf (path : List ℕ) (count : ℕ) (marks : List Bool) : Type 0 where
  pub each : length marks ≡ count
  pub are : (place : ℕ) → place < count → slice_get marks place ≡ Some (is_on_path path place)

-- what is known of a node after a list of the last phases of nodes
abbrev pub last_in : List (Option ℕ) → ℕ → Option ℕ
last_in last node = slice_index_or last node None

-- of these parents one has this last phase
pub record IsLastAmong (last : List (Option ℕ)) (parents : List ℕ) (count place : ℕ) : Type 0 where
  pub index : ℕ
  pub inside : index < count
  pub is : last_in last (slice_index parents index) ≡ Some place
