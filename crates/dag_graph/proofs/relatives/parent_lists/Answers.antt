use Rattle.std.proofs.Common.{◌≡◌, ◌∙◌, ℕ, List, length, map, refl, sym, ap, subst, arith}
use Rattle.std.proofs.lemmas.List.{length-map}
use Rattle.std.proofs.lemmas.List.FromFn.{length-map-range_with_len}
use Rattle.std.specs.List.{All, range_with_len}
use Rattle.splices_flat.specs.declared.flat.FlatNode.{FlatNode}
use Rattle.splices_flat.specs.declared.flat.Side.TheVariants.{Parent, Child}
use Rattle.splices_flat.specs.Dag.{IsGroupBelow}
use Rattle.splices_flat.specs.Places.{edges_of, nodes_on_side}
use Rattle.dag_graph.specs.Numbers.{AreBelow, all_named, holders_of, named}
use Rattle.dag_graph.proofs.Families.{parents_listed}
use Rattle.dag_graph.proofs.Groups.{homes_below, named_edges, sides_below}
use Rattle.dag_graph.proofs.relatives.parent_lists.Goals as goal

pub side_of-requires-clause-within : goal.side_of-requires-clause-within
side_of-requires-clause-within c =
    let count : length c.nodes-count.result.now ≡ length c.args.dag.now.nodes = ap (λ (ns : List FlatNode). length ns) c.nodes-count.ensures.are in
    subst (λ (n : ℕ). All (IsGroupBelow n) c.edges-groups.result.now) (sym count) c.edges-groups.ensures.below

pub side_of-requires-2-clause-within : goal.side_of-requires-2-clause-within
side_of-requires-2-clause-within c =
    let count : length c.nodes-count.result.now ≡ length c.args.dag.now.nodes = ap (λ (ns : List FlatNode). length ns) c.nodes-count.ensures.are in
    subst (λ (n : ℕ). All (IsGroupBelow n) c.edges-groups.result.now) (sym count) c.edges-groups.ensures.below

pub inverted-requires-clause-few : goal.inverted-requires-clause-few
inverted-requires-clause-few c =
    omega (arith, ap (λ (ls : List (List ℕ)). length ls) (c.as_slice.ensures.value ∙ c.in_ok-parents.ensures), length-map c.edges-groups.result.now (nodes_on_side Parent), c.if-groups-gt4294967295.false)

pub inverted-requires-clause-within : goal.inverted-requires-clause-within
inverted-requires-clause-within c =
    let count : length c.nodes-count.result.now ≡ length c.args.dag.now.nodes = ap (λ (ns : List FlatNode). length ns) c.nodes-count.ensures.are in
    sides_below (length c.nodes-count.result.now) Parent c.edges-groups.result.now c.as_slice.result.now (c.as_slice.ensures.value ∙ c.in_ok-parents.ensures)
    (subst (λ (n : ℕ). All (IsGroupBelow n) c.edges-groups.result.now) (sym count) c.edges-groups.ensures.below)

pub parents_by-requires-clause-few : goal.parents_by-requires-clause-few
parents_by-requires-clause-few c =
    let count : length c.nodes-count.result.now ≡ length c.args.dag.now.nodes = ap (λ (ns : List FlatNode). length ns) c.nodes-count.ensures.are in
    omega (arith, count, c.nodes-count.ensures.few, ap (λ (ls : List (List ℕ)). length ls) (c.as_slice-2.ensures.value ∙ c.in_ok-homes.ensures), length-map-range_with_len (holders_of c.as_slice.result.now) 0 (length c.nodes-count.result.now))

pub parents_by-requires-clause-homes : goal.parents_by-requires-clause-homes
parents_by-requires-clause-homes c =
    let groups = c.edges-groups.result.now in
    let parents : length c.as_slice.result.now ≡ length groups = ap (λ (ls : List (List ℕ)). length ls) (c.as_slice.ensures.value ∙ c.in_ok-parents.ensures) ∙ length-map groups (nodes_on_side Parent) in
    let children : length c.as_slice-3.result.now ≡ length groups = ap (λ (ls : List (List ℕ)). length ls) (c.as_slice-3.ensures.value ∙ c.in_ok-children.ensures) ∙ length-map groups (nodes_on_side Child) in
    homes_below c.as_slice.result.now c.as_slice-2.result.now (length c.nodes-count.result.now) (length c.as_slice-3.result.now) (c.as_slice-2.ensures.value ∙ c.in_ok-homes.ensures) (parents ∙ sym children)

pub parents_by-requires-clause-children : goal.parents_by-requires-clause-children
parents_by-requires-clause-children c =
    let n = length c.nodes-count.result.now in
    let count : n ≡ length c.args.dag.now.nodes = ap (λ (ns : List FlatNode). length ns) c.nodes-count.ensures.are in
    let homes : length c.as_slice-2.result.now ≡ n = ap (λ (ls : List (List ℕ)). length ls) (c.as_slice-2.ensures.value ∙ c.in_ok-homes.ensures) ∙ length-map-range_with_len (holders_of c.as_slice.result.now) 0 n in
    subst (λ (m : ℕ). AreBelow m c.as_slice-3.result.now) (sym homes)
    (sides_below n Child c.edges-groups.result.now c.as_slice-3.result.now (c.as_slice-3.ensures.value ∙ c.in_ok-children.ensures)
    (subst (λ (m : ℕ). All (IsGroupBelow m) c.edges-groups.result.now) (sym count) c.edges-groups.ensures.below))

pub returns : goal.returns
returns c =
    let n = length c.nodes-count.result.now in
    let count : n ≡ length c.args.dag.now.nodes = ap (λ (ns : List FlatNode). length ns) c.nodes-count.ensures.are in
    let groups = c.edges-groups.result.now in
    let parents = c.as_slice.result.now in
    let homes = c.as_slice-2.result.now in
    let children = c.as_slice-3.result.now in
    let parents_are : parents ≡ map (nodes_on_side Parent) groups = c.as_slice.ensures.value ∙ c.in_ok-parents.ensures in
    let children_are : children ≡ map (nodes_on_side Child) groups = c.as_slice-3.ensures.value ∙ c.in_ok-children.ensures in
    let homes_are : homes ≡ map (holders_of parents) (range_with_len 0 n) = c.as_slice-2.ensures.value ∙ c.in_ok-homes.ensures in
    let raw = all_named children homes in
    let as_many : length raw ≡ length homes = length-map homes (named children) in
    let len : length raw ≡ n = as_many ∙ ap (λ (ls : List (List ℕ)). length ls) homes_are ∙ length-map-range_with_len (holders_of parents) 0 n in
    parents_listed n (length c.args.dag.now.nodes) (edges_of groups) c.args.dag.now.edges raw raw c.in_ok-listed.listed.items count c.edges-groups.ensures.are refl len
    (λ p k small. named_edges groups parents children homes n p k parents_are children_are homes_are small)
    (c.in_ok-listed.ensures ∙ ap (λ (m : ℕ). map (holders_of raw) (range_with_len 0 m)) (sym as_many))
