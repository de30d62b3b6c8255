-- The plan of a graph without the limit on a category.
use Rattle.std.specs.Prelude.{◌≡◌, ℕ, Bool, false, not, List, [], map, filter}
use Rattle.std.specs.Option.{option_map}
use Rattle.std.specs.Str.{bytes_eq}
use Rattle.splices_flat.specs.declared.flat.FlatNode.{FlatNode}
use Rattle.splices_flat.specs.declared.flat.CategoryLimit.{CategoryLimit}
use Rattle.splices_flat.specs.Dag.{Dag}
use Rattle.dag_graph.specs.Graph.{Network, IsOrderOf}
use Rattle.run_plan.specs.Plan.{Plan}
use Rattle.run_plan.specs.Submitted.{bare_plan}

-- a node without the macros of its VARS lines: where no submit file is read, none is used
abbrev pub without_macros : FlatNode → FlatNode
without_macros node = record node { settings = record node.settings { macros = [] } }

-- a limit is on another category than this
abbrev pub is_of_other : List ℕ → CategoryLimit → Bool
is_of_other category limit = not (bytes_eq limit.name category)

-- the same DAG where the MAXJOBS of a category is left out, without macros and warnings
abbrev pub without_limit_on : List ℕ → Dag → Dag
without_limit_on category dag = record dag {
  nodes = map without_macros dag.nodes;
  final_node = option_map without_macros dag.final_node;
  categories = filter (is_of_other category) dag.categories;
  warnings = [];
}

-- its plan, where no submit file is read
pub record IsPlanWithoutLimit (graph : Network) (category : List ℕ) (plan : Plan) : Type 0 where
  pub order : List ℕ
  pub is_order : IsOrderOf (without_limit_on category graph.dag) order
  pub made : plan ≡ bare_plan false (record { dag = without_limit_on category graph.dag; order = order })
