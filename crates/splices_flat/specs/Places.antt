-- The pairs of a list of numbers with another, and the ends of a part of the graph.
use Rattle.std.specs.Prelude.{◌≡◌, ℕ, ◌+◌, ◌<◌, ◌==◌, Bool, not, List, [], ◌∷◌, ◌++◌, false, length, slice_index_or, map, filter, if◌then◌else◌}
use Rattle.std.specs.List.{flat_map, list_any, range_with_len}
use Rattle.splices_flat.specs.declared.flat.Edge.{Edge}
use Rattle.splices_flat.specs.declared.flat.EdgeGroup.{EdgeGroup}
use Rattle.splices_flat.specs.declared.flat.Side.{Side}
use Rattle.splices_flat.specs.declared.flat.Side.TheVariants.{Parent, Child}

abbrev pub edge : ℕ → ℕ → Edge
edge parent child = record { parent = parent; child = child }

-- each parent with each child
abbrev pub pairs : List ℕ → List ℕ → List Edge
pairs parents children = flat_map (λ p. map (λ c. edge p c) children) parents

-- the edges of groups, each of which has its parents' edges to its children
abbrev pub edges_of : List EdgeGroup → List Edge
edges_of groups = flat_map (λ g. pairs g.parents g.children) groups

abbrev pub other_side : Side → Side
other_side Parent = Child
other_side Child = Parent

-- the nodes that a group has on a side
abbrev pub nodes_on_side : Side → EdgeGroup → List ℕ
nodes_on_side Parent g = g.parents
nodes_on_side Child g = g.children

abbrev pub end_of : Side → Edge → ℕ
end_of Parent e = e.parent
end_of Child e = e.child

-- an edge has this node on this side
abbrev pub is_end : Side → List Edge → ℕ → Bool
is_end side edges n = list_any (λ e. end_of side e == n) edges

-- of so many nodes, the first of which has the number `first`, those that are on this side of no edge
abbrev pub free_of : Side → ℕ → ℕ → List Edge → List ℕ
free_of side first count edges = filter (λ n. not (is_end side edges n)) (range_with_len first count)

-- each mark says whether the node with that number is on this side of an edge
abbrev pub AreSideMarks : Side → ℕ → List Edge → List Bool → Type 0
AreSideMarks side first edges marks = (k : ℕ) → k < length marks → slice_index_or marks k false ≡ is_end side edges (first + k)

-- the numbers from `first` on whose marks are not set
abbrev pub unmarked_from : ℕ → List Bool → List ℕ
unmarked_from first [] = []
unmarked_from first (marked ∷ marks) = (if marked then [] else first ∷ []) ++ unmarked_from (first + 1) marks
