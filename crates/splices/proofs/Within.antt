-- Both ends of each edge are nodes.
use Rattle.std.proofs.Common.{◌≡◌, ℕ, zero, suc, ◌+◌, ◌<◌, ◌≤◌, Bool, not, List, [], ◌∷◌, length, map, Option, Some, None, refl, arith}
use Rattle.std.proofs.lemmas.List.Elements.{All-nil, All-cons, All-head, All-tail, All-append, All-map, All-filter, All-weaker}
use Rattle.std.proofs.lemmas.List.Quantifiers.{position-Some}
use Rattle.std.specs.List.{All, flat_map, range_with_len}
use Rattle.std.specs.Prelude.{position, slice_get}
use Rattle.std.specs.Str.{bytes_eq}
use Rattle.dag_reader.specs.declared.command.Command.{Command}
use Rattle.dag_reader.specs.declared.command.Command.TheVariants.{ParentChild}
use Rattle.dag_reader.specs.Word.{PlacedText}
use Rattle.splices_flat.specs.declared.flat.EdgeGroup.{EdgeGroup}
use Rattle.splices_flat.specs.declared.flat.Side.{Side}
use Rattle.splices_flat.specs.declared.flat.Side.TheVariants.{Parent, Child}
use Rattle.splices_flat.specs.declared.part.Part.{Part}
use Rattle.splices_flat.specs.Dag.{IsBelow, IsGroupBelow}
use Rattle.splices_flat.specs.Nodes.{own_count, jobs_in, job_names}
use Rattle.splices_flat.specs.Forest.{Forest, none, more, Tree, forest_count}
use Rattle.splices_flat.specs.Places.{edge, edges_of, pairs, is_end}
use Rattle.splices_flat.specs.Edges.{NodeScope, node_scope, side_of, part_nodes, splice_nodes, job_or_splice, nodes_named, all_stand_for, unseen, line_edges, file_edges, part_of, forest_edges, forest_parts, tree_count, tree_edges}
use Rattle.splices_flat.proofs.Own.{names-length}

abbrev Below : ℕ → ℕ → Type 0
Below n k = k < n

all_flat : {X Y : Type 0} (P : Y → Type 0) (f : X → List Y) (xs : List X) → ((x : X) → All P (f x)) → All P (flat_map f xs)
all_flat P f [] each = All-nil P
all_flat P f (x ∷ xs) each = All-append P (f x) (flat_map f xs) (each x) (all_flat P f xs each)

range_below : (first count n : ℕ) → first + count ≤ n → All (Below n) (range_with_len first count)
range_below first zero n fits = All-nil (Below n)
range_below first (suc count) n fits = All-cons (Below n) first (range_with_len (first + 1) count) (omega arith) (range_below (first + 1) count n (omega arith))

abbrev PartBelow : ℕ → Part → Type 0
PartBelow n p = All (Below n) p.heads × All (Below n) p.tails

part_below : (first count n : ℕ) (groups : List EdgeGroup) → first + count ≤ n → PartBelow n (part_of first count groups)
part_below first count n groups fits = (
  All-filter (λ k. not (is_end Child (edges_of groups) k)) (Below n) (range_with_len first count) (range_below first count n fits),
  All-filter (λ k. not (is_end Parent (edges_of groups) k)) (Below n) (range_with_len first count) (range_below first count n fits),
)

one_below : (n k : ℕ) → k < n → All (Below n) (k ∷ [])
one_below n k small = All-cons (Below n) k [] small (All-nil (Below n))

side_below : (n : ℕ) (side : Side) (p : Part) → PartBelow n p → All (Below n) (side_of side p)
side_below n Parent p below = below.1
side_below n Child p below = below.0

nodes_below : (n : ℕ) (side : Side) (parts : List Part) (k : ℕ) → All (PartBelow n) parts → All (Below n) (part_nodes side (slice_get parts k))
nodes_below n side [] k below = All-nil (Below n)
nodes_below n side (p ∷ ps) zero below = side_below n side p (All-head (PartBelow n) p ps below)
nodes_below n side (p ∷ ps) (suc k) below = nodes_below n side ps k (All-tail (PartBelow n) p ps below)

spliced_below : (n : ℕ) (side : Side) (scope : NodeScope) (place : Option ℕ) → All (PartBelow n) scope.parts → All (Below n) (splice_nodes side scope place)
spliced_below n side scope None below = All-nil (Below n)
spliced_below n side scope (Some k) below = nodes_below n side scope.parts k below

place_below : (p : List ℕ → Bool) (xs : List (List ℕ)) (k : ℕ) → position p xs ≡ Some k → k < length xs
place_below p xs k is = (position-Some p xs k [] is).0

named_below : (n : ℕ) (side : Side) (scope : NodeScope) (w : PlacedText) (place : Option ℕ) → position (bytes_eq w.text) scope.jobs ≡ place → scope.first + length scope.jobs ≤ n → All (PartBelow n) scope.parts
    → All (Below n) (job_or_splice side scope w.text place)
named_below n side scope w (Some k) is fits below =
    let small : k < length scope.jobs = place_below (bytes_eq w.text) scope.jobs k is in
    one_below n (scope.first + k) (omega arith)
named_below n side scope w None is fits below = spliced_below n side scope (position (bytes_eq w.text) scope.splices) below

all_below : (n : ℕ) (side : Side) (scope : NodeScope) (ws : List PlacedText) → scope.first + length scope.jobs ≤ n → All (PartBelow n) scope.parts → All (Below n) (all_stand_for side scope ws)
all_below n side scope ws fits below =
    all_flat (Below n) (nodes_named side scope) (unseen [] ws) (λ w. named_below n side scope w (position (bytes_eq w.text) scope.jobs) refl fits below)

row_below : (n p : ℕ) (children : List ℕ) → p < n → All (Below n) children → All (IsBelow n) (map (λ c. edge p c) children)
row_below n p children small below = All-map (IsBelow n) (λ c. edge p c) children (All-weaker (Below n) (λ c. IsBelow n (edge p c)) (λ c less. record { parent = small; child = less }) children below)

pairs_below : (n : ℕ) (parents children : List ℕ) → All (Below n) parents → All (Below n) children → All (IsBelow n) (pairs parents children)
pairs_below n [] children above below = All-nil (IsBelow n)
pairs_below n (p ∷ ps) children above below =
    All-append (IsBelow n) (map (λ c. edge p c) children) (pairs ps children) (row_below n p children (All-head (Below n) p ps above) below)
    (pairs_below n ps children (All-tail (Below n) p ps above) below)

-- both ends of each edge of groups
pub edges_below : (n : ℕ) (groups : List EdgeGroup) → All (IsGroupBelow n) groups → All (IsBelow n) (edges_of groups)
edges_below n [] below = All-nil (IsBelow n)
edges_below n (g ∷ gs) below =
    let here : IsGroupBelow n g = All-head (IsGroupBelow n) g gs below in
    All-append (IsBelow n) (pairs g.parents g.children) (edges_of gs) (pairs_below n g.parents g.children here.parents here.children) (edges_below n gs (All-tail (IsGroupBelow n) g gs below))

line_below : (n : ℕ) (scope : NodeScope) (c : Command) → scope.first + length scope.jobs ≤ n → All (PartBelow n) scope.parts → All (IsGroupBelow n) (line_edges scope c)
line_below n scope (ParentChild parents children) fits below =
    All-cons (IsGroupBelow n) (record { parents = all_stand_for Parent scope parents; children = all_stand_for Child scope children }) []
    (record { parents = all_below n Parent scope parents fits below; children = all_below n Child scope children fits below }) (All-nil (IsGroupBelow n))
line_below n scope c fits below = All-nil (IsGroupBelow n)

file_below : (n first : ℕ) (cs : List Command) (edges : List EdgeGroup) (parts : List Part) → first + own_count cs ≤ n → All (IsGroupBelow n) edges → All (PartBelow n) parts → All (IsGroupBelow n) (file_edges first cs edges parts)
file_below n first cs edges parts fits inner below =
    let names : length (job_names cs) ≡ own_count cs = names-length (jobs_in cs) in
    All-append (IsGroupBelow n) edges (flat_map (line_edges (node_scope first cs parts)) cs) inner
    (all_flat (IsGroupBelow n) (line_edges (node_scope first cs parts)) cs (λ c. line_below n (node_scope first cs parts) c (omega arith) below))

forest_below : (f : Forest) (first n : ℕ) → first + forest_count f ≤ n → All (IsGroupBelow n) (forest_edges first f) × All (PartBelow n) (forest_parts first f)
forest_below none first n fits = (All-nil (IsGroupBelow n), All-nil (PartBelow n))
forest_below (more name file inner others) first n fits =
    let cs = file.commands in
    let count = own_count cs + forest_count inner in
    let within = forest_below inner (first + own_count cs) n (omega arith) in
    let behind = forest_below others (first + count) n (omega arith) in
    let here = file_edges first cs (forest_edges (first + own_count cs) inner) (forest_parts (first + own_count cs) inner) in (
      All-append (IsGroupBelow n) here (forest_edges (first + count) others) (file_below n first cs _ _ (omega arith) within.0 within.1) behind.0,
      All-cons (PartBelow n) (part_of first count here) (forest_parts (first + count) others) (part_below first count n here (omega arith)) behind.1,
    )

pub tree_below : (t : Tree) → All (IsGroupBelow (tree_count t)) (tree_edges 0 t)
tree_below t =
    let cs = t.file.commands in
    let within = forest_below t.inner (0 + own_count cs) (tree_count t) (omega arith) in
    file_below (tree_count t) 0 cs _ _ (omega arith) within.0 within.1
