-- The plan of a graph: what the files say of each node.
use Rattle.std.specs.Prelude.{ℕ, ◌+◌, ◌==◌, Bool, false, List, [], ◌∷◌}
use Rattle.std.specs.List.{list_any}
use Rattle.std.specs.Option.{option_map}
use Rattle.dag_graph.specs.Graph.{Network, parents_of}
use Rattle.splices_flat.specs.Dag.{Dag}
use Rattle.splices_flat.specs.declared.flat.FlatNode.{FlatNode}
use Rattle.run_plan_node.specs.Node.{Job, NodeSpec}
use Rattle.run_plan_node.specs.Specs.{spec_of}
use Rattle.run_plan.specs.Plan.{Plan}

-- what the jobs of nodes are started by, which nodes a rescue file marks, and whether POST runs after a failed PRE
pub record Sources : Type 0 where
  pub job : FlatNode → Job
  pub marked : ℕ → Bool
  pub always_post : Bool

-- the specifications of these nodes, the first of which has this number
abbrev pub specs_from : Dag → Sources → ℕ → List FlatNode → List NodeSpec
specs_from dag sources number [] = []
specs_from dag sources number (node ∷ nodes) =
    spec_of sources.always_post dag.categories (parents_of dag number) (sources.job node) (sources.marked number) node ∷ specs_from dag sources (number + 1) nodes

-- the specification of the FINAL node, which no rescue file marks, and which is in no category
abbrev pub final_spec : Sources → FlatNode → NodeSpec
final_spec sources node = spec_of sources.always_post [] [] (sources.job node) false node

-- the plan of a graph
abbrev pub plan_from : Network → Sources → List ℕ → Plan
plan_from graph sources digest = record {
  nodes = specs_from graph.dag sources 0 graph.dag.nodes;
  final_node = option_map (final_spec sources) graph.dag.final_node;
  graph = graph;
  digest = digest;
  always_post = sources.always_post;
}

-- a node has one of these numbers
abbrev pub is_listed : List ℕ → ℕ → Bool
is_listed numbers number = list_any (λ n. n == number) numbers
