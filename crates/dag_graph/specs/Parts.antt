-- What a graph keeps beside its flat DAG.
use Rattle.std.specs.Prelude.{◌≡◌, ℕ, List, Option}
use Rattle.splices_flat.specs.Dag.{Dag}
use Rattle.dag_graph.specs.Graph.{IsOrderOf, names_of, all_parents_of, all_children_of}
use Rattle.dag_graph.specs.Names.{GivesPlaces}

-- the parents and children of each node, a topological order, and a table of the full names
pub record IsGraph (dag : Dag) (parents children : List (List ℕ)) (order : List ℕ) (get : List ℕ → Option ℕ) : Type 0 where
  pub parents_are : parents ≡ all_parents_of dag
  pub children_are : children ≡ all_children_of dag
  pub ordered : IsOrderOf dag order
  pub gives_places : GivesPlaces get (names_of dag)
