-- The parents of a node, by the groups of edges.
use Rattle.std.proofs.Common.{◌≡◌, ℕ, zero, suc, ◌+◌, ◌<◌, ◌≤◌, Bool, true, false, cond, ◌&&◌, ◌||◌, ◌==◌, ◌++◌, List, [], ◌∷◌, length, get_or, take, map, refl, sym, ap, ◌∙◌, subst, arith}
use Rattle.std.proofs.lemmas.Grind.{flat_map-append}
use Rattle.std.proofs.lemmas.List.{append-nil, take_more, length-map, get_or-map, get_or_default}
use Rattle.std.proofs.lemmas.List.Folds.{list_any-append}
use Rattle.std.proofs.lemmas.List.FromFn.{length-map-range_with_len, get_or-map-range_with_len}
use Rattle.std.proofs.lemmas.List.Elements.{All-nil, All-append, All-head, All-tail, All-filter}
use Rattle.std.specs.List.{range_with_len, list_any, All}
use Rattle.splices_flat.specs.declared.flat.Edge.{Edge}
use Rattle.splices_flat.specs.declared.flat.EdgeGroup.{EdgeGroup}
use Rattle.splices_flat.specs.declared.flat.Side.{Side}
use Rattle.splices_flat.specs.declared.flat.Side.TheVariants.{Parent, Child}
use Rattle.splices_flat.specs.Dag.{IsGroupBelow}
use Rattle.splices_flat.specs.Places.{edge, pairs, edges_of, nodes_on_side}
use Rattle.dag_graph.specs.Numbers.{has, AreBelow, holders_of, holders_below, named, all_named}
use Rattle.dag_graph.specs.Graph.{is_edge}
use Rattle.dag_graph.proofs.Lists.{filter_range_more, range_below}

or_of_and : (a x y : Bool) → ((a && x) || (a && y)) ≡ (a && (x || y))
or_of_and true x y = refl
or_of_and false x y = refl

and_of_or : (a b x : Bool) → ((a && x) || (b && x)) ≡ ((a || b) && x)
and_of_or true true true = refl
and_of_or true true false = refl
and_of_or true false true = refl
and_of_or true false false = refl
and_of_or false b x = refl

and_none : (a : Bool) → false ≡ (a && false)
and_none true = refl
and_none false = refl

-- an edge from one node to others
row_edge : (q p c : ℕ) (cs : List ℕ) → list_any (is_edge p c) (map (λ d. edge q d) cs) ≡ ((q == p) && has cs c)
row_edge q p c [] = and_none (q == p)
row_edge q p c (d ∷ cs) = ap (λ (b : Bool). ((q == p) && (d == c)) || b) (row_edge q p c cs) ∙ or_of_and (q == p) (d == c) (has cs c)

-- an edge of a group
pair_edge : (ps cs : List ℕ) (p c : ℕ) → list_any (is_edge p c) (pairs ps cs) ≡ (has ps p && has cs c)
pair_edge [] cs p c = refl
pair_edge (q ∷ ps) cs p c =
    list_any-append (is_edge p c) (map (λ d. edge q d) cs) (pairs ps cs) ∙ ap (λ (b : Bool). b || list_any (is_edge p c) (pairs ps cs)) (row_edge q p c cs)
    ∙ ap (λ (b : Bool). ((q == p) && has cs c) || b) (pair_edge ps cs p c) ∙ and_of_or (q == p) (has ps p) (has cs c)

nothing : EdgeGroup
nothing = record { parents = []; children = [] }

edges_more : (groups : List EdgeGroup) (k p c : ℕ) (g : EdgeGroup) → k < length groups → g ≡ get_or groups k nothing → list_any (is_edge p c) (edges_of (take (k + 1) groups)) ≡ (list_any (is_edge p c) (edges_of (take k groups)) || (has g.parents p && has g.children c))
edges_more groups k p c g lt is =
    let more : edges_of (take (k + 1) groups) ≡ edges_of (take k groups) ++ pairs g.parents g.children =
    ap edges_of (take_more groups k nothing lt ∙ ap (λ (h : EdgeGroup). take k groups ++ h ∷ []) (sym is))
    ∙ flat_map-append (λ (h : EdgeGroup). pairs h.parents h.children) (take k groups) (g ∷ []) ∙ ap (λ (es : List Edge). edges_of (take k groups) ++ es) (append-nil (pairs g.parents g.children)) in
    ap (list_any (is_edge p c)) more ∙ list_any-append (is_edge p c) (edges_of (take k groups)) (pairs g.parents g.children)
    ∙ ap (λ (b : Bool). list_any (is_edge p c) (edges_of (take k groups)) || b) (pair_edge g.parents g.children p c)

one_named : (lists : List (List ℕ)) (k c : ℕ) (b : Bool) → has (named lists (cond b (k ∷ []) [])) c ≡ (b && has (get_or lists k []) c)
one_named lists k c true = ap (λ (ns : List ℕ). has ns c) (append-nil (get_or lists k []))
one_named lists k c false = refl

named_upto : (groups : List EdgeGroup) (p c k : ℕ) → k ≤ length groups →
    has (named (map (nodes_on_side Child) groups) (holders_below k (map (nodes_on_side Parent) groups) p)) c ≡ list_any (is_edge p c) (edges_of (take k groups))
named_upto groups p c zero le = refl
named_upto groups p c (suc k) le =
    let ps = map (nodes_on_side Parent) groups in
    let cs = map (nodes_on_side Child) groups in
    let lt : k < length groups = omega arith in
    let g = get_or groups k nothing in
    let at : suc k ≡ k + 1 = omega arith in
    let before = holders_below k ps p in
    let here : Bool = has (get_or ps k []) p in
    let parents : get_or ps k [] ≡ g.parents = get_or-map (nodes_on_side Parent) groups k nothing [] lt in
    let children : get_or cs k [] ≡ g.children = get_or-map (nodes_on_side Child) groups k nothing [] lt in
    ap (λ (n : ℕ). has (named cs (holders_below n ps p)) c) at
    ∙ ap (λ (hs : List ℕ). has (named cs hs) c) (filter_range_more (λ v. has (get_or ps v []) p) k)
    ∙ ap (λ (ns : List ℕ). has ns c) (flat_map-append (λ (place : ℕ). get_or cs place []) before (cond here (k ∷ []) []))
    ∙ list_any-append (λ m. m == c) (named cs before) (named cs (cond here (k ∷ []) []))
    ∙ ap (λ (b : Bool). b || has (named cs (cond here (k ∷ []) [])) c) (named_upto groups p c k (omega arith))
    ∙ ap (λ (b : Bool). list_any (is_edge p c) (edges_of (take k groups)) || b)
    (one_named cs k c here ∙ ap (λ (ns : List ℕ). has ns p && has (get_or cs k []) c) parents ∙ ap (λ (ns : List ℕ). has g.parents p && has ns c) children)
    ∙ sym (edges_more groups k p c g lt refl) ∙ ap (λ (n : ℕ). list_any (is_edge p c) (edges_of (take n groups))) (sym at)

taken : (groups : List EdgeGroup) → take (length groups) groups ≡ groups
taken [] = refl
taken (g ∷ gs) = ap (λ (hs : List EdgeGroup). g ∷ hs) (taken gs)

-- what is named for a node by its groups are its children
pub named_edges : (groups : List EdgeGroup) (parents children homes : List (List ℕ)) (count p c : ℕ) → parents ≡ map (nodes_on_side Parent) groups → children ≡ map (nodes_on_side Child) groups → homes ≡ map (holders_of parents) (range_with_len 0 count) → p < count
    → has (get_or (all_named children homes) p []) c ≡ list_any (is_edge p c) (edges_of groups)
named_edges groups parents children homes count p c ps cs hs lt =
    let len : length homes ≡ count = ap (λ (ls : List (List ℕ)). length ls) hs ∙ length-map-range_with_len (holders_of parents) 0 count in
    let small : p < length homes = omega (arith, len) in
    let home : get_or homes p [] ≡ holders_of parents p = ap (λ (ls : List (List ℕ)). get_or ls p []) hs ∙ get_or-map-range_with_len (holders_of parents) 0 count p p [] lt (omega arith) in
    let all : length parents ≡ length groups = ap (λ (ls : List (List ℕ)). length ls) ps ∙ length-map groups (nodes_on_side Parent) in
    ap (λ (ns : List ℕ). has ns c) (get_or-map (named children) homes p [] [] small)
    ∙ ap (λ (hs' : List ℕ). has (named children hs') c) (home ∙ ap (λ (n : ℕ). holders_below n parents p) all)
    ∙ ap (λ (ls : List (List ℕ)). has (named ls (holders_below (length groups) parents p)) c) cs
    ∙ ap (λ (ls : List (List ℕ)). has (named (map (nodes_on_side Child) groups) (holders_below (length groups) ls p)) c) ps
    ∙ named_upto groups p c (length groups) (omega arith)
    ∙ ap (λ (gs : List EdgeGroup). list_any (is_edge p c) (edges_of gs)) (taken groups)

-- the nodes of a group on a side are below the count
pub side_below : (count : ℕ) (side : Side) (g : EdgeGroup) → IsGroupBelow count g → All (λ n. n < count) (nodes_on_side side g)
side_below count Parent g is = is.parents
side_below count Child g is = is.children

pub sides_below : (count : ℕ) (side : Side) (groups : List EdgeGroup) (lists : List (List ℕ)) → lists ≡ map (nodes_on_side side) groups → All (IsGroupBelow count) groups → AreBelow count lists
sides_below count side groups lists is below = λ v k low lt.
    let small : v < length groups = omega (arith, ap (λ (ls : List (List ℕ)). length ls) is, length-map groups (nodes_on_side side)) in
    let at : get_or lists v [] ≡ nodes_on_side side (get_or groups v nothing) = ap (λ (ls : List (List ℕ)). get_or ls v []) is ∙ get_or-map (nodes_on_side side) groups v nothing [] small in
    let inside : k < length (nodes_on_side side (get_or groups v nothing)) = subst (λ (ns : List ℕ). k < length ns) at lt in
    subst (λ (ns : List ℕ). get_or ns k 0 < count) (sym at) (side_below count side (get_or groups v nothing) (below v nothing small) k 0 inside)

-- the places of groups are below their number
pub homes_below : (lists homes : List (List ℕ)) (count bound : ℕ) → homes ≡ map (holders_of lists) (range_with_len 0 count) → length lists ≡ bound → AreBelow bound homes
homes_below lists homes count bound is len = λ v k low lt.
    let small : v < count = omega (arith, ap (λ (ls : List (List ℕ)). length ls) is, length-map-range_with_len (holders_of lists) 0 count) in
    let at : get_or homes v [] ≡ holders_of lists v = ap (λ (ls : List (List ℕ)). get_or ls v []) is ∙ get_or-map-range_with_len (holders_of lists) 0 count v v [] small (omega arith) in
    let inside : k < length (holders_of lists v) = subst (λ (ns : List ℕ). k < length ns) at lt in
    let low : get_or (holders_of lists v) k 0 < length lists = All-filter (λ u. has (get_or lists u []) v) (λ m. m < length lists) (range_with_len 0 (length lists)) (range_below (length lists)) k 0 inside in
    subst (λ (ns : List ℕ). get_or ns k 0 < bound) (sym at) (omega (arith, low, len))

-- what lists name is below what they are below
pub named_below : (bound : ℕ) (lists : List (List ℕ)) (places : List ℕ) → AreBelow bound lists → All (λ place. place < length lists) places → All (λ m. m < bound) (named lists places)
named_below bound lists [] below within = All-nil (λ m. m < bound)
named_below bound lists (place ∷ places) below within =
    let here : place < length lists = All-head (λ m. m < length lists) place places within in
    All-append (λ m. m < bound) (get_or lists place []) (named lists places) (λ k d lt.
    let value : get_or (get_or lists place []) k d ≡ get_or (get_or lists place []) k 0 = get_or_default (get_or lists place []) k d 0 lt in
    subst (λ (n : ℕ). n < bound) (sym value) (below place k here lt)) (named_below bound lists places below (All-tail (λ m. m < length lists) place places within))

-- the list of a node among those that are named
pub named_at : (lists homes : List (List ℕ)) (i : ℕ) (places seen numbers : List ℕ) → i < length homes → places ≡ get_or homes i places → seen ≡ places → numbers ≡ named lists seen → numbers ≡ get_or (all_named lists homes) i numbers
named_at lists homes i places seen numbers lt is same are =
    are ∙ ap (named lists) (same ∙ is) ∙ sym (get_or-map (named lists) homes i places numbers lt)
