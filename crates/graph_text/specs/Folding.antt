-- Which nodes of a plan are drawn as one box.
use Rattle.std.specs.Prelude.{◌≡◌, ℕ, ◌<◌, ◌≤◌, List, length, map, Option, slice_get, slice_index_or}
use Rattle.std.specs.List.{Contains}
use Rattle.std.specs.List.Sorted.{IsStrictlyIncreasing}
use Rattle.std.specs.Option.{option_map}
use Rattle.splices_flat.specs.declared.flat.FlatNode.{FlatNode}
use Rattle.dag_graph.specs.Graph.{parents_of, children_of}
use Rattle.run_plan.specs.Plan.{Plan}
use Rattle.status_report.specs.Text.{reported}
use Rattle.graph_text.specs.declared.checking.Around.{Around}

-- what a node runs: the path of its submit file, and its folder
pub record Kind : Type 0 where
  pub file : List ℕ
  pub folder : List ℕ

abbrev pub kind_of_flat : FlatNode → Kind
kind_of_flat node = record { file = node.file; folder = node.folder }

-- the kind of an ordinary node; the FINAL node has none, which is a kind of its own
abbrev pub kind_at : Plan → ℕ → Option Kind
kind_at plan node = option_map kind_of_flat (slice_get plan.graph.dag.nodes node)

-- each of the first nodes has the class of one of the second
abbrev pub AreMatched : (ℕ → ℕ) → List ℕ → List ℕ → Type 0
AreMatched class_of xs ys = (x : ℕ) → Contains xs x → (y : ℕ) × Contains ys y × (class_of x ≡ class_of y)

-- Two nodes are of one kind, and each parent and each child of the first has the class of a parent and of a child of the second.
pub record IsLike (plan : Plan) (class_of : ℕ → ℕ) (a b : ℕ) : Type 0 where
  pub kind : kind_at plan a ≡ kind_at plan b
  pub parents : AreMatched class_of (parents_of plan.graph.dag a) (parents_of plan.graph.dag b)
  pub children : AreMatched class_of (children_of plan.graph.dag a) (children_of plan.graph.dag b)

-- The nodes may be folded by their classes: any two of a class are of one kind, with parents of the same classes and children of the same classes;
-- and a class is named by its first node in plan order.
pub record IsFolding (plan : Plan) (class_of : ℕ → ℕ) : Type 0 where
  pub alike : (a b : ℕ) → a < reported plan → b < reported plan → class_of a ≡ class_of b → IsLike plan class_of a b
  pub first : (a : ℕ) → a < reported plan → class_of a ≤ a
  pub itself : (a : ℕ) → a < reported plan → class_of (class_of a) ≡ class_of a

-- a node is like the first of its class, and this one is like the node
pub record IsLikeFirst (plan : Plan) (class_of : ℕ → ℕ) (node : ℕ) : Type 0 where
  pub first : class_of node ≤ node
  pub itself : class_of (class_of node) ≡ class_of node
  pub forth : IsLike plan class_of node (class_of node)
  pub back : IsLike plan class_of (class_of node) node

-- the classes of these nodes, ascending and each once
pub record IsClassesOf (class_of : ℕ → ℕ) (nodes classes : List ℕ) : Type 0 where
  pub rising : IsStrictlyIncreasing classes
  pub of_nodes : (c : ℕ) → Contains classes c → Contains (map class_of nodes) c
  pub of_all : (c : ℕ) → Contains (map class_of nodes) c → Contains classes c

-- the classes of a node's parents, and those of its children
pub record IsAround (plan : Plan) (class_of : ℕ → ℕ) (node : ℕ) (around : Around) : Type 0 where
  pub parents : IsClassesOf class_of (parents_of plan.graph.dag node) around.parents
  pub children : IsClassesOf class_of (children_of plan.graph.dag node) around.children

-- the same of each node below n
pub record AreArounds (plan : Plan) (class_of : ℕ → ℕ) (n : ℕ) (arounds : List Around) : Type 0 where
  pub len : length arounds ≡ n
  pub each : (node : ℕ) (d : Around) → node < n → IsAround plan class_of node (slice_index_or arounds node d)
