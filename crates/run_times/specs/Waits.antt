-- What is known after the first phases of a log: which phases waited for which.
use Rattle.std.specs.Prelude.{◌≡◌, ℕ, ◌<◌, List, length, Option, Some, None, set, slice_index_or}
use Rattle.dag_graph.specs.Graph.{Network}
use Rattle.run_times.specs.declared.runs.PhaseRun.{PhaseRun}
use Rattle.run_times.specs.declared.critical.Waits.{Waits}
use Rattle.run_times.specs.Critical.{IsLatestOf, IsLastOf, WaitsFor, last_in}

-- what is known after so many phases: the last one of each node, the one that ended last, and for which each waited
pub record AreWaits (graph : Network) (runs : List PhaseRun) (waits : Waits) (count : ℕ) : Type 0 where
  pub nodes : length waits.last.items ≡ length graph.dag.nodes
  pub lasts : (node : ℕ) → node < length graph.dag.nodes → IsLastOf graph runs node count (last_in waits.last.items node)
  pub latest : IsLatestOf runs (λ place. place < count) waits.latest
  pub each : length waits.before.items ≡ count
  pub befores : (place : ℕ) → place < count → WaitsFor graph runs place (slice_index_or waits.before.items place None)

-- the last phases of nodes once a node, if it is an ordinary one, has another
abbrev pub with_last : List (Option ℕ) → Option ℕ → ℕ → List (Option ℕ)
with_last last (Some node) place = set last node (Some place)
with_last last None place = last
