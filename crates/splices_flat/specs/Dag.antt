-- A flat DAG as contracts see it.
use Rattle.std.specs.Prelude.{ℕ, ◌<◌, ◌≤◌, List, length, Option}
use Rattle.std.specs.List.{All}
use Rattle.splices_flat.specs.declared.flat.FlatNode.{FlatNode}
use Rattle.splices_flat.specs.declared.flat.Edge.{Edge}
use Rattle.splices_flat.specs.declared.flat.EdgeGroup.{EdgeGroup}
use Rattle.splices_flat.specs.declared.flat.CategoryLimit.{CategoryLimit}
use Rattle.splices_flat.specs.declared.flat.DagWarning.{DagWarning}

-- the path of the file that was opened first, the ordinary nodes in plan order, the FINAL node, the pairs of parents and children by their numbers, each
-- category that has a MAXJOBS, and the warnings for the user
pub record Dag : Type 0 where
  pub top : List ℕ
  pub nodes : List FlatNode
  pub final_node : Option FlatNode
  pub edges : List Edge
  pub categories : List CategoryLimit
  pub warnings : List DagWarning

-- both ends of an edge have numbers below this one
pub record IsBelow (count : ℕ) (edge : Edge) : Type 0 where
  pub parent : edge.parent < count
  pub child : edge.child < count

-- the same of all nodes of a group
pub record IsGroupBelow (count : ℕ) (group : EdgeGroup) : Type 0 where
  pub parents : All (λ n. n < count) group.parents
  pub children : All (λ n. n < count) group.children

-- edges between the ordinary nodes, of which there are at most 65,536
pub record IsWellSized (dag : Dag) : Type 0 where
  pub few : length dag.nodes ≤ 65536
  pub edges : All (IsBelow (length dag.nodes)) dag.edges
