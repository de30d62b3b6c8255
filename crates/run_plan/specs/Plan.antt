-- A plan as contracts see it.
use Rattle.std.specs.Prelude.{ℕ, zero, suc, ◌<◌, nat_lt, Bool, true, ◌&&◌, List, length, Option, unwrap_or, slice_get}
use Rattle.std.specs.List.{Contains, list_all}
use Rattle.dag_graph.specs.Graph.{Network}
use Rattle.run_plan_node.specs.Node.{NodeSpec, no_node}

-- the ordinary nodes by their numbers, the FINAL node, which has the next number, the graph that they were made from, the
-- digest of all files that the plan was made from, and whether POST runs after a failed PRE
pub record Plan : Type 0 where
  pub nodes : List NodeSpec
  pub final_node : Option NodeSpec
  pub graph : Network
  pub digest : List ℕ
  pub always_post : Bool

abbrev pub node_at : Plan → ℕ → NodeSpec
node_at plan node = unwrap_or (slice_get plan.nodes node) (unwrap_or plan.final_node no_node)

abbrev pub count_of : Plan → ℕ
count_of plan = length plan.nodes

-- every number below n
abbrev pub all_below : (ℕ → Bool) → ℕ → Bool
all_below test zero = true
all_below test (suc n) = test n && all_below test n

-- each parent of an ordinary node is an ordinary node of a lower rank, so no node is its own ancestor
abbrev pub IsRankedBy : (ℕ → ℕ) → Plan → Type 0
IsRankedBy rank plan =
    (node : ℕ) → node < count_of plan → (parent : ℕ) → Contains (node_at plan node).parents parent
    → (parent < count_of plan) × (rank parent < rank node)

-- a node, or one above it
pub data IsAtOrAbove (plan : Plan) : ℕ → ℕ → Type 0 where
  at : {node : ℕ} → IsAtOrAbove plan node node
  above : {node parent top : ℕ} → Contains (node_at plan node).parents parent → IsAtOrAbove plan parent top → IsAtOrAbove plan node top

-- each parent of a node is an ordinary node
abbrev pub has_parents_below : ℕ → NodeSpec → Bool
has_parents_below count node = list_all (λ parent. nat_lt parent count) node.parents
