-- The graph of a DAG: parents, ancestors, orders and cycles. Nodes go by their numbers.
use Rattle.std.specs.Prelude.{◌≡◌, ◌≢◌, ℕ, ◌<◌, ◌≤◌, Bool, ◌&&◌, ◌==◌, List, [], ◌∷◌, ◌++◌, length, map, filter, slice_index, slice_index_or, Option, Some, None}
use Rattle.std.specs.List.{Contains, All, list_any, position_or_len, range_with_len, sum_by}
use Rattle.splices_flat.specs.declared.flat.Edge.{Edge}
use Rattle.splices_flat.specs.declared.flat.FlatNode.{FlatNode}
use Rattle.splices_flat.specs.Dag.{Dag}

-- an edge from the parent to the child is among these
abbrev pub IsParent : List Edge → ℕ → ℕ → Type 0
IsParent edges parent child = Contains edges (record { parent = parent; child = child })

-- the parents of a node, and those of its ancestors
pub data IsAncestor (edges : List Edge) : ℕ → ℕ → Type 0 where
  direct : {p v : ℕ} → IsParent edges p v → IsAncestor edges p v
  through : {a p v : ℕ} → IsAncestor edges a p → IsParent edges p v → IsAncestor edges a v

-- no node is its own ancestor
abbrev pub IsAcyclic : List Edge → Type 0
IsAcyclic edges = (v : ℕ) → IsAncestor edges v v → ⊥

-- x is a parent of the first of the list, each of the list is one of the next, and the last is one of `end`
abbrev pub Leads : List Edge → ℕ → List ℕ → ℕ → Type 0
Leads edges x [] end = IsParent edges x end
Leads edges x (y ∷ ys) end = IsParent edges x y × Leads edges y ys end

-- no two of these nodes are one
abbrev pub AreDistinct : List ℕ → Type 0
AreDistinct nodes = (i j : ℕ) → i < j → j < length nodes → slice_index nodes i ≢ slice_index nodes j

-- each is a parent of the next, the last is one of the first, the first is the least of them, and none comes twice
abbrev pub IsCycle : List Edge → List ℕ → Type 0
IsCycle edges [] = ⊥
IsCycle edges (x ∷ xs) = Leads edges x xs x × All (λ y. x ≤ y) xs × AreDistinct (x ∷ xs)

-- the edge from the parent to the child, compared
abbrev pub is_edge : ℕ → ℕ → Edge → Bool
is_edge parent child edge = (edge.parent == parent) && (edge.child == child)

-- the parents of a node among as many nodes, ascending and each once
abbrev pub parents_among : ℕ → List Edge → ℕ → List ℕ
parents_among count edges node = filter (λ p. list_any (is_edge p node) edges) (range_with_len 0 count)

-- the children of a node among as many nodes, ascending and each once
abbrev pub children_among : ℕ → List Edge → ℕ → List ℕ
children_among count edges node = filter (λ c. list_any (is_edge node c) edges) (range_with_len 0 count)

-- the parents of a node in plan order, each once
abbrev pub parents_of : Dag → ℕ → List ℕ
parents_of dag node = parents_among (length dag.nodes) dag.edges node

-- the children of a node in plan order, each once
abbrev pub children_of : Dag → ℕ → List ℕ
children_of dag node = children_among (length dag.nodes) dag.edges node

-- the parents of each node
abbrev pub all_parents_of : Dag → List (List ℕ)
all_parents_of dag = map (parents_of dag) (range_with_len 0 (length dag.nodes))

-- the children of each node
abbrev pub all_children_of : Dag → List (List ℕ)
all_children_of dag = map (children_of dag) (range_with_len 0 (length dag.nodes))

-- the place of a node in an order
abbrev pub rank_in : List ℕ → ℕ → ℕ
rank_in order node = position_or_len (λ n. n == node) order

-- each of the ordinary nodes is in the order once, and nothing else is; parents come before their children
pub record IsOrderOf (dag : Dag) (order : List ℕ) : Type 0 where
  pub all : length order ≡ length dag.nodes
  pub places : (node : ℕ) → node < length dag.nodes → slice_index order (rank_in order node) ≡ node
  pub within : (node : ℕ) → node < length dag.nodes → rank_in order node < length order
  pub ranked : (parent child : ℕ) → IsParent dag.edges parent child → rank_in order parent < rank_in order child

-- the full names of all nodes by their numbers, that of the FINAL node last
abbrev pub names_with_final : Option FlatNode → List (List ℕ)
names_with_final None = []
names_with_final (Some node) = node.name ∷ []

abbrev pub names_of : Dag → List (List ℕ)
names_of dag = map (λ n. n.name) dag.nodes ++ names_with_final dag.final_node

-- the full name of a node
abbrev pub name_of : Dag → ℕ → List ℕ
name_of dag node = slice_index_or (names_of dag) node []

-- the number of distinct pairs of a parent and a child
abbrev pub edge_count_of : Dag → ℕ
edge_count_of dag = sum_by (λ node. length (parents_of dag node)) (range_with_len 0 (length dag.nodes))

-- the rank rises along each edge
abbrev pub RisesAlong : (ℕ → ℕ) → List Edge → Type 0
RisesAlong rank edges = (p v : ℕ) → IsParent edges p v → rank p < rank v

-- a graph as contracts see it: the flat DAG, and the ordinary nodes in a topological order
pub record Network : Type 0 where
  pub dag : Dag
  pub order : List ℕ
