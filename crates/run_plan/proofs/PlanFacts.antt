-- The plan of a graph: its nodes by their numbers, and its parents.
use Rattle.std.proofs.Common.{◌≡◌, ℕ, zero, suc, ◌+◌, ◌<◌, ◌≤◌, Bool, true, false, cond, List, [], ◌∷◌, ◌++◌, length, filter, Option, Some, None, unwrap_or, refl, sym, ap, subst, ◌∙◌, arith, nat_lt, lt-ltb, add-zero, take, get_or}
use Rattle.std.specs.Prelude.{slice_get, IfSome}
use Rattle.std.specs.Option.{option_map}
use Rattle.std.specs.List.{All, Contains, list_all, list_any, range_with_len, position_or_len}
use Rattle.std.proofs.lemmas.Bool.{and_parts, and_from, ltb-true}
use Rattle.std.proofs.lemmas.Grind.{common_steps}
use Rattle.std.proofs.lemmas.List.{take_more}
use Rattle.std.proofs.lemmas.List.Elements.{All-nil, All-cons, All-head, All-tail, All-filter, All-contains}
use Rattle.std.proofs.lemmas.Option.{slice_get_past}
use Rattle.splices_flat.specs.Dag.{Dag}
use Rattle.splices_flat.specs.declared.flat.FlatNode.{FlatNode}
use Rattle.splices_flat.specs.declared.flat.CategoryLimit.{CategoryLimit}
use Rattle.splices_flat.specs.declared.flat.CategorySetting.{CategorySetting}
use Rattle.std.specs.Str.{bytes_eq}
use Rattle.dag_graph.specs.Graph.{Network, IsParent, IsOrderOf, is_edge, rank_in, parents_of}
use Rattle.dag_graph.proofs.Told.{any_edge}
use Rattle.run_plan_node.specs.Node.{Job, NodeSpec, no_node}
use Rattle.run_plan.specs.Plan.{Plan, node_at, count_of, has_parents_below, IsRankedBy}
use Rattle.run_plan.specs.Planned.{IsPlanned}
use Rattle.run_plan_node.specs.Specs.{category_place, spec_of}
use Rattle.run_plan.specs.Specs.{Sources, specs_from, final_spec, plan_from}

pub specs-length : (dag : Dag) (sources : Sources) (number : ℕ) (nodes : List FlatNode) → length (specs_from dag sources number nodes) ≡ length nodes
specs-length dag sources number [] = refl
specs-length dag sources number (n ∷ ns) = ap (λ (k : ℕ). suc k) (specs-length dag sources (number + 1) ns)

pub count-is : (graph : Network) (sources : Sources) (digest : List ℕ) → count_of (plan_from graph sources digest) ≡ length graph.dag.nodes
count-is graph sources digest = specs-length graph.dag sources 0 graph.dag.nodes

-- the same of a plan that was made
pub planned-count : (plan : Plan) → IsPlanned plan → count_of plan ≡ length plan.graph.dag.nodes
planned-count plan is = ap count_of is.made ∙ count-is plan.graph is.sources plan.digest

-- one node more
pub specs-append : (dag : Dag) (sources : Sources) (number : ℕ) (xs ys : List FlatNode)
    → specs_from dag sources number (xs ++ ys) ≡ specs_from dag sources number xs ++ specs_from dag sources (number + length xs) ys
specs-append dag sources number [] ys = ap (λ (k : ℕ). specs_from dag sources k ys) (sym (add-zero number))
specs-append dag sources number (x ∷ xs) ys =
    let shift : number + 1 + length xs ≡ number + suc (length xs) = omega arith in
    ap (λ (ss : List NodeSpec). spec_of sources.always_post dag.categories (parents_of dag number) (sources.job x) (sources.marked number) x ∷ ss) (specs-append dag sources (number + 1) xs ys
    ∙ ap (λ (k : ℕ). specs_from dag sources (number + 1) xs ++ specs_from dag sources k ys) shift)

pub specs-more : (dag : Dag) (sources : Sources) (nodes : List FlatNode) (i : ℕ) (d : FlatNode) → i < length nodes
    → specs_from dag sources 0 (take (i + 1) nodes) ≡ specs_from dag sources 0 (take i nodes) ++ spec_of sources.always_post dag.categories (parents_of dag i) (sources.job (get_or nodes i d)) (sources.marked i) (get_or nodes i d) ∷ []
specs-more dag sources nodes i d small =
    let len : length (take i nodes) ≡ i = grind (arith, common_steps) in
    let start : 0 + length (take i nodes) ≡ i = omega arith in
    ap (specs_from dag sources 0) (take_more nodes i d small) ∙ specs-append dag sources 0 (take i nodes) (get_or nodes i d ∷ [])
    ∙ ap (λ (k : ℕ). specs_from dag sources 0 (take i nodes) ++ spec_of sources.always_post dag.categories (parents_of dag k) (sources.job (get_or nodes i d)) (sources.marked k) (get_or nodes i d) ∷ []) start

-- one turn of the loop over the nodes
pub specs-step : (dag : Dag) (sources : Sources) (seen : List FlatNode) (i : ℕ) (specs new : List NodeSpec) (spec : NodeSpec) (node : FlatNode) (parents : List ℕ) (job : Job) (marked : Bool)
    → seen ≡ dag.nodes → i < length seen → node ≡ get_or seen i node → specs ≡ specs_from dag sources 0 (take i dag.nodes) → new ≡ specs ++ spec ∷ []
    → spec ≡ spec_of sources.always_post dag.categories parents job marked node → parents ≡ parents_of dag i → job ≡ sources.job node → marked ≡ sources.marked i
    → new ≡ specs_from dag sources 0 (take (i + 1) dag.nodes)
specs-step dag sources seen i specs new spec node parents job marked same small is specs_are new_is spec_is parents_are job_is marked_is =
    let small_here : i < length dag.nodes = subst (λ (ns : List FlatNode). i < length ns) same small in
    let node_is : node ≡ get_or dag.nodes i node = is ∙ ap (λ (ns : List FlatNode). get_or ns i node) same in
    new_is ∙ ap (λ (ss : List NodeSpec). ss ++ spec ∷ []) specs_are
    ∙ ap (λ (s : NodeSpec). specs_from dag sources 0 (take i dag.nodes) ++ s ∷ [])
    (spec_is ∙ ap (λ (ps : List ℕ). spec_of sources.always_post dag.categories ps job marked node) parents_are ∙ ap (λ (j : Job). spec_of sources.always_post dag.categories (parents_of dag i) j marked node) job_is
    ∙ ap (λ (m : Bool). spec_of sources.always_post dag.categories (parents_of dag i) (sources.job node) m node) marked_is
    ∙ ap (λ (n : FlatNode). spec_of sources.always_post dag.categories (parents_of dag i) (sources.job n) (sources.marked i) n) node_is)
    ∙ sym (specs-more dag sources dag.nodes i node small_here)

-- Parents are ordinary nodes, and each has an edge to its child.
range_below : (from count n : ℕ) → from + count ≤ n → All (λ k. k < n) (range_with_len from count)
range_below from zero n fits = All-nil (λ k. k < n)
range_below from (suc count) n fits = All-cons (λ k. k < n) from (range_with_len (from + 1) count) (omega arith) (range_below (from + 1) count n (omega arith))

all_pass : (q : ℕ → Bool) (xs : List ℕ) → All (λ x. q x ≡ true) (filter q xs)
all_pass q [] = All-nil (λ x. q x ≡ true)
all_pass q (x ∷ xs) = go (q x) refl (all_pass q xs)
  where
    go : (b : Bool) → q x ≡ b → All (λ y. q y ≡ true) (filter q xs) → All (λ y. q y ≡ true) (cond b (x ∷ filter q xs) (filter q xs))
    go true e rest = All-cons (λ y. q y ≡ true) x (filter q xs) e rest
    go false e rest = rest

parents-in : (dag : Dag) (node : ℕ) → All (λ p. p < length dag.nodes) (parents_of dag node)
parents-in dag node =
    All-filter (λ p. list_any (is_edge p node) dag.edges) (λ p. p < length dag.nodes) (range_with_len 0 (length dag.nodes)) (range_below 0 (length dag.nodes) (length dag.nodes) (omega arith))

parent-edge : (dag : Dag) (node p : ℕ) → Contains (parents_of dag node) p → IsParent dag.edges p node
parent-edge dag node p among =
    any_edge p node dag.edges (All-contains (λ x. list_any (is_edge x node) dag.edges ≡ true) (parents_of dag node) p (all_pass (λ x. list_any (is_edge x node) dag.edges) (range_with_len 0 (length dag.nodes))) among)

all_below : (n : ℕ) (xs : List ℕ) → All (λ p. p < n) xs → list_all (λ p. nat_lt p n) xs ≡ true
all_below n [] below = refl
all_below n (x ∷ xs) below =
    and_from _ _ (lt-ltb x n (All-head (λ p. p < n) x xs below)) (all_below n xs (All-tail (λ p. p < n) x xs below))

specs-below : (dag : Dag) (sources : Sources) (n number : ℕ) (nodes : List FlatNode) → n ≡ length dag.nodes → list_all (has_parents_below n) (specs_from dag sources number nodes) ≡ true
specs-below dag sources n number [] is = refl
specs-below dag sources n number (x ∷ xs) is =
    and_from _ _ (all_below n (parents_of dag number) (subst (λ (m : ℕ). All (λ p. p < m) (parents_of dag number)) (sym is) (parents-in dag number))) (specs-below dag sources n (number + 1) xs is)

final-below : (sources : Sources) (n : ℕ) (final_node : Option FlatNode) → has_parents_below n (unwrap_or (option_map (final_spec sources) final_node) no_node) ≡ true
final-below sources n None = refl
final-below sources n (Some node) = refl

-- what holds of each node of a list, and of what stands for one that is not there
pub all_get : {A : Type 0} (f : A → Bool) (xs : List A) (d : A) → list_all f xs ≡ true → f d ≡ true → (i : ℕ) → f (unwrap_or (slice_get xs i) d) ≡ true
all_get f [] d e h i = h
all_get f (x ∷ xs) d e h zero = (and_parts _ _ e).0
all_get f (x ∷ xs) d e h (suc i) = all_get f xs d (and_parts _ _ e).1 h i

made-below : (graph : Network) (sources : Sources) (digest : List ℕ) (node : ℕ)
    → has_parents_below (count_of (plan_from graph sources digest)) (node_at (plan_from graph sources digest) node) ≡ true
made-below graph sources digest node =
    let plan = plan_from graph sources digest in
    all_get (has_parents_below (count_of plan)) plan.nodes (unwrap_or plan.final_node no_node)
    (specs-below graph.dag sources (count_of plan) 0 graph.dag.nodes (count-is graph sources digest)) (final-below sources (count_of plan) graph.dag.final_node) node

-- a place among the categories
abbrev place-below : ℕ → Option ℕ → Bool
place-below n None = true
place-below n (Some place) = nat_lt place n

place-within : (limits : List CategoryLimit) (setting : Option CategorySetting) → place-below (length limits) (category_place limits setting) ≡ true
place-within limits None = refl
place-within limits (Some s) = go (nat_lt (position_or_len (λ limit. bytes_eq s.name limit.name) limits) (length limits)) refl
  where
    go : (b : Bool) → nat_lt (position_or_len (λ limit. bytes_eq s.name limit.name) limits) (length limits) ≡ b
        → place-below (length limits) (cond b (Some (position_or_len (λ limit. bytes_eq s.name limit.name) limits)) None) ≡ true
    go true e = e
    go false e = refl

specs-placed : (dag : Dag) (sources : Sources) (number : ℕ) (nodes : List FlatNode) → list_all (λ spec. place-below (length dag.categories) spec.category) (specs_from dag sources number nodes) ≡ true
specs-placed dag sources number [] = refl
specs-placed dag sources number (x ∷ xs) = and_from _ _ (place-within dag.categories x.settings.category) (specs-placed dag sources (number + 1) xs)

place-none : (n : ℕ) (setting : Option CategorySetting) → place-below n (category_place [] setting) ≡ true
place-none n None = refl
place-none n (Some s) = refl

final-placed : (sources : Sources) (n : ℕ) (final_node : Option FlatNode) → place-below n (unwrap_or (option_map (final_spec sources) final_node) no_node).category ≡ true
final-placed sources n None = refl
final-placed sources n (Some node) = place-none n node.settings.category

made-placed : (graph : Network) (sources : Sources) (digest : List ℕ) (node : ℕ)
    → place-below (length graph.dag.categories) (node_at (plan_from graph sources digest) node).category ≡ true
made-placed graph sources digest node =
    let plan = plan_from graph sources digest in
    all_get (λ (spec : NodeSpec). place-below (length graph.dag.categories) spec.category) plan.nodes (unwrap_or plan.final_node no_node)
    (specs-placed graph.dag sources 0 graph.dag.nodes) (final-placed sources (length graph.dag.categories) graph.dag.final_node) node

some-place : (n : ℕ) (o : Option ℕ) → place-below n o ≡ true → IfSome o (λ place. place < n)
some-place n None h = tt
some-place n (Some place) h = ltb-true place n h

pub category-placed : (plan : Plan) → IsPlanned plan → (node : ℕ) → IfSome (node_at plan node).category (λ place. place < length plan.graph.dag.categories)
category-placed plan is node =
    some-place (length plan.graph.dag.categories) (node_at plan node).category
    (subst (λ (p : Plan). place-below (length plan.graph.dag.categories) (node_at p node).category ≡ true) (sym is.made) (made-placed plan.graph is.sources plan.digest node))

pub parents-below : (plan : Plan) → IsPlanned plan → (node : ℕ) → has_parents_below (count_of plan) (node_at plan node) ≡ true
parents-below plan is node =
    subst (λ (p : Plan). has_parents_below (count_of p) (node_at p node) ≡ true) (sym is.made) (made-below plan.graph is.sources plan.digest node)

pub node-past : (plan : Plan) (node : ℕ) → count_of plan ≤ node → node_at plan node ≡ unwrap_or plan.final_node no_node
node-past plan node le = ap (λ (o : Option NodeSpec). unwrap_or o (unwrap_or plan.final_node no_node)) (slice_get_past plan.nodes node le)

-- the order of the graph ranks the plan
spec-parents : (dag : Dag) (sources : Sources) (number : ℕ) (nodes : List FlatNode) (i : ℕ) (d : NodeSpec) → i < length nodes
    → (unwrap_or (slice_get (specs_from dag sources number nodes) i) d).parents ≡ parents_of dag (number + i)
spec-parents dag sources number [] i d small = absurd (omega arith)
spec-parents dag sources number (x ∷ xs) zero d small = ap (parents_of dag) (sym (add-zero number))
spec-parents dag sources number (x ∷ xs) (suc i) d small =
    let shift : number + 1 + i ≡ number + suc i = omega arith in
    spec-parents dag sources (number + 1) xs i d (omega arith) ∙ ap (parents_of dag) shift

pub made-ranked : (graph : Network) (sources : Sources) (digest : List ℕ) → IsOrderOf graph.dag graph.order → IsRankedBy (rank_in graph.order) (plan_from graph sources digest)
made-ranked graph sources digest order = λ node small parent among.
    let n : count_of (plan_from graph sources digest) ≡ length graph.dag.nodes = count-is graph sources digest in
    let here : (node_at (plan_from graph sources digest) node).parents ≡ parents_of graph.dag node =
    spec-parents graph.dag sources 0 graph.dag.nodes node (unwrap_or (plan_from graph sources digest).final_node no_node) (omega arith)
    ∙ ap (parents_of graph.dag) (let e : 0 + node ≡ node = omega arith in e) in
    let parents : Contains (parents_of graph.dag node) parent = subst (λ (ps : List ℕ). Contains ps parent) here among in
    let low : parent < length graph.dag.nodes = All-contains (λ p. p < length graph.dag.nodes) (parents_of graph.dag node) parent (parents-in graph.dag node) parents in
    (omega arith, order.ranked parent node (parent-edge graph.dag node parent parents))

pub ranked : (plan : Plan) → IsPlanned plan → IsOrderOf plan.graph.dag plan.graph.order → IsRankedBy (rank_in plan.graph.order) plan
ranked plan is order = subst (IsRankedBy (rank_in plan.graph.order)) (sym is.made) (made-ranked plan.graph is.sources plan.digest order)

-- the parents of an ordinary node are those of the graph
pub parents-are : (plan : Plan) → IsPlanned plan → (node : ℕ) → node < count_of plan → (node_at plan node).parents ≡ parents_of plan.graph.dag node
parents-are plan is node small =
    let made = plan_from plan.graph is.sources plan.digest in
    let n : count_of plan ≡ length plan.graph.dag.nodes = planned-count plan is in
    ap (λ (p : Plan). (node_at p node).parents) is.made
    ∙ spec-parents plan.graph.dag is.sources 0 plan.graph.dag.nodes node (unwrap_or made.final_node no_node) (omega (arith, small, n))
    ∙ ap (parents_of plan.graph.dag) (let e : 0 + node ≡ node = omega arith in e)
