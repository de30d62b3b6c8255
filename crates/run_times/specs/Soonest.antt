-- How soon the nodes could have ended without limits: each begins when the last of its parents has ended, and takes as long as it took.
use Rattle.std.specs.Prelude.{◌≡◌, ℕ, ◌+◌, ◌<◌, ◌≤◌, max, ◌==◌, List, [], ◌∷◌, length, map, unwrap_or, slice_index, if◌then◌else◌}
use Rattle.std.specs.List.{sum_by}
use Rattle.dag_graph.specs.Graph.{Network, parents_of}
use Rattle.run_times.specs.declared.runs.PhaseRun.{PhaseRun}
use Rattle.run_times.specs.Canvas.{within}
use Rattle.run_times.specs.Critical.{run_node_of}

-- the number of the ordinary node of a phase; their count, for one of FINAL and of a node that the files do not have
abbrev pub run_number_of : Network → PhaseRun → ℕ
run_number_of graph run = unwrap_or (run_node_of graph run) (length graph.dag.nodes)

-- how long a phase took if it is of this number, else 0
abbrev pub took_for : Network → ℕ → PhaseRun → ℕ
took_for graph number run = if run_number_of graph run == number then run.took else 0

-- how long all phases of a number took
abbrev pub busy_of : Network → List PhaseRun → ℕ → ℕ
busy_of graph runs number = within (sum_by (took_for graph number) runs)

-- how long those of each number took
pub record AreBusy (graph : Network) (runs : List PhaseRun) (busy : List ℕ) : Type 0 where
  pub each : length busy ≡ length graph.dag.nodes + 1
  pub are : (number : ℕ) → number ≤ length graph.dag.nodes → slice_index busy number ≡ busy_of graph runs number

-- the greatest of some numbers; 0, where there are none
abbrev pub greatest_time : List ℕ → ℕ
greatest_time [] = 0
greatest_time (number ∷ rest) = max number (greatest_time rest)

-- when the last of some nodes ends
abbrev pub last_end_of : List ℕ → List ℕ → ℕ
last_end_of ends nodes = greatest_time (map (slice_index ends) nodes)

-- When each ordinary node could have ended: as long after the last of its parents as its phases took. So it is the greatest sum of what the nodes of a path to it took,
-- over all paths.
pub record AreSoonest (graph : Network) (runs : List PhaseRun) (ends : List ℕ) : Type 0 where
  pub each : length ends ≡ length graph.dag.nodes
  pub are : (node : ℕ) → node < length graph.dag.nodes → slice_index ends node ≡ within (last_end_of ends (parents_of graph.dag node) + busy_of graph runs node)

-- how long the run would have taken: FINAL comes after all nodes
abbrev pub time_without_limits : Network → List PhaseRun → List ℕ → ℕ
time_without_limits graph runs ends = within (greatest_time ends + busy_of graph runs (length graph.dag.nodes))

-- this is how long it would have taken
pub record IsSoonest (graph : Network) (runs : List PhaseRun) (time : ℕ) : Type 0 where
  pub ends : List ℕ
  pub are : AreSoonest graph runs ends
  pub is : time ≡ time_without_limits graph runs ends
