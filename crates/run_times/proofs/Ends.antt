-- How soon nodes end.
use Rattle.std.proofs.Common.{◌≡◌, ℕ, suc, ◌+◌, ◌<◌, ◌≤◌, ◌⊎◌, inl, inr, Bool, true, cond, List, [], ◌∷◌, ◌++◌, set, take, length, get_or, map, refl, sym, ap, ◌∙◌, arith}
use Rattle.std.specs.Prelude.{max}
use Rattle.std.specs.List.{Contains, list_any, range_with_len, sum_by}
use Rattle.std.proofs.lemmas.Bool.{cases_eq, cases_lt, eq-eqb, ne_eqb}
use Rattle.std.proofs.lemmas.List.{get_or-set_same, get_or-set_other, take_more, map_more, get_or_default, set_past}
use Rattle.std.proofs.lemmas.List.Elements.{filter_passes, All-contains}
use Rattle.std.proofs.lemmas.List.Sums.{sum_by_more}
use Rattle.splices_flat.specs.Dag.{Dag}
use Rattle.dag_graph.specs.Graph.{Network, IsParent, IsOrderOf, is_edge, rank_in, parents_of}
use Rattle.dag_graph.proofs.Told.{any_edge}
use Rattle.run_times.specs.declared.runs.PhaseRun.{PhaseRun}
use Rattle.run_times.specs.Canvas.{within}
use Rattle.run_times.specs.Soonest.{run_number_of, took_for, busy_of, greatest_time, last_end_of}

-- the greatest of some numbers and one more
pub greatest_push : (numbers : List ℕ) (number : ℕ) → greatest_time (numbers ++ number ∷ []) ≡ max (greatest_time numbers) number
greatest_push [] number = omega arith
greatest_push (first ∷ rest) number = let more = greatest_push rest number in omega (arith, more)

pub greatest_more : (numbers : List ℕ) (i d : ℕ) → i < length numbers → greatest_time (take (i + 1) numbers) ≡ max (greatest_time (take i numbers)) (get_or numbers i d)
greatest_more numbers i d inside = ap greatest_time (take_more numbers i d inside) ∙ greatest_push (take i numbers) (get_or numbers i d)

pub last_end_more : (ends nodes : List ℕ) (i d : ℕ) → i < length nodes → last_end_of ends (take (i + 1) nodes) ≡ max (last_end_of ends (take i nodes)) (get_or ends (get_or nodes i d) 0)
last_end_more ends nodes i d inside =
    ap greatest_time (map_more (λ node. get_or ends node 0) nodes i d inside) ∙ greatest_push (map (λ node. get_or ends node 0) (take i nodes)) (get_or ends (get_or nodes i d) 0)

-- the busy times, once a phase more has been added
pub busy-more : (graph : Network) (runs : List PhaseRun) (busy : List ℕ) (i : ℕ) (d : PhaseRun) (number total : ℕ) → i < length runs → length busy ≡ length graph.dag.nodes + 1
    → ((k : ℕ) → k ≤ length graph.dag.nodes → get_or busy k 0 ≡ busy_of graph (take i runs) k) → number ≡ run_number_of graph (get_or runs i d)
    → total ≡ within (get_or busy number 0 + (get_or runs i d).took) → (k : ℕ) → k ≤ length graph.dag.nodes → get_or (set busy number total) k 0 ≡ busy_of graph (take (i + 1) runs) k
busy-more graph runs busy i d number total inside each are number_is total_is k low = by (cases_eq k number)
  where
    more : sum_by (took_for graph k) (take (i + 1) runs) ≡ sum_by (took_for graph k) (take i runs) + took_for graph k (get_or runs i d)
    more = sum_by_more (took_for graph k) runs i d inside

    by : (k ≡ number) ⊎ (k ≡ number → ⊥) → get_or (set busy number total) k 0 ≡ busy_of graph (take (i + 1) runs) k
    by (inl same) =
        let value : get_or (set busy number total) k 0 ≡ total = ap (λ (n : ℕ). get_or (set busy number total) n 0) same ∙ get_or-set_same busy number total 0 (omega (arith, low, same, each)) in
        let before : get_or busy number 0 ≡ within (sum_by (took_for graph k) (take i runs)) = ap (λ (n : ℕ). get_or busy n 0) (sym same) ∙ are k low in
        let took : took_for graph k (get_or runs i d) ≡ (get_or runs i d).took
        = ap (λ (b : Bool). cond b (get_or runs i d).took 0) (eq-eqb (run_number_of graph (get_or runs i d)) k (sym number_is ∙ sym same)) in
        omega (arith, value, total_is, before, took, more)
    by (inr differs) =
        let value : get_or (set busy number total) k 0 ≡ get_or busy k 0 = get_or-set_other busy number k total 0 differs in
        let before = are k low in
        let took : took_for graph k (get_or runs i d) ≡ 0
        = ap (λ (b : Bool). cond b (get_or runs i d).took 0) (ne_eqb (run_number_of graph (get_or runs i d)) k (λ e. differs (sym (number_is ∙ e)))) in
        omega (arith, value, before, took, more)

-- a node ends as long after the last of its parents as its phases took
abbrev pub IsEnd : Network → List ℕ → List ℕ → ℕ → Type 0
IsEnd graph busy ends node = get_or ends node 0 ≡ within (last_end_of ends (parents_of graph.dag node) + get_or busy node 0)

-- a parent in the list of the parents of a node is one by an edge
pub parent-edge : (dag : Dag) (node p : ℕ) → Contains (parents_of dag node) p → IsParent dag.edges p node
parent-edge dag node p among =
    any_edge p node dag.edges (All-contains (λ x. list_any (is_edge x node) dag.edges ≡ true) (parents_of dag node) p (filter_passes (λ x. list_any (is_edge x node) dag.edges) (range_with_len 0 (length dag.nodes))) among)

-- ends that are the same for some nodes
ends-agree : (one other nodes : List ℕ) → ((k : ℕ) → k < length nodes → get_or one (get_or nodes k 0) 0 ≡ get_or other (get_or nodes k 0) 0) → last_end_of one nodes ≡ last_end_of other nodes
ends-agree one other [] same = refl
ends-agree one other (node ∷ nodes) same =
    let first = same 0 (omega arith) in
    let rest = ends-agree one other nodes (λ k low. same (suc k) (omega (arith, low))) in
    omega (arith, first, rest)

-- the ends, once that of the next node in the order is known
pub ends-more : (graph : Network) (busy ends : List ℕ) (i node value : ℕ) → IsOrderOf graph.dag graph.order → length ends ≡ length graph.dag.nodes → node ≡ get_or graph.order i 0
    → ((m : ℕ) → m < length graph.dag.nodes → rank_in graph.order m < i → IsEnd graph busy ends m)
    → value ≡ within (last_end_of ends (parents_of graph.dag node) + get_or busy node 0)
    → (m : ℕ) → m < length graph.dag.nodes → rank_in graph.order m < i + 1 → IsEnd graph busy (set ends node value) m
ends-more graph busy ends i node value order each here are value_is m inside low = by (cases_eq m node)
  where
    set-node : node < length graph.dag.nodes → get_or (set ends node value) node 0 ≡ value
    set-node within = get_or-set_same ends node value 0 (omega (arith, within, each))

    parent-same : (k : ℕ) → k < length (parents_of graph.dag m) → get_or (set ends node value) (get_or (parents_of graph.dag m) k 0) 0 ≡ get_or ends (get_or (parents_of graph.dag m) k 0) 0
    parent-same k there = by (cases_eq (get_or (parents_of graph.dag m) k 0) node)
      where
        edge : IsParent graph.dag.edges (get_or (parents_of graph.dag m) k 0) m
        edge = parent-edge graph.dag m (get_or (parents_of graph.dag m) k 0) (k, there, get_or_default (parents_of graph.dag m) k (get_or (parents_of graph.dag m) k 0) 0 there)

        below : rank_in graph.order (get_or (parents_of graph.dag m) k 0) < rank_in graph.order m
        below = order.ranked (get_or (parents_of graph.dag m) k 0) m edge

        by : (get_or (parents_of graph.dag m) k 0 ≡ node) ⊎ (get_or (parents_of graph.dag m) k 0 ≡ node → ⊥)
            → get_or (set ends node value) (get_or (parents_of graph.dag m) k 0) 0 ≡ get_or ends (get_or (parents_of graph.dag m) k 0) 0
        by (inl same) = ap (λ (p : ℕ). get_or (set ends node value) p 0) same ∙ known (cases_lt node (length graph.dag.nodes)) ∙ ap (λ (p : ℕ). get_or ends p 0) (sym same)
          where
            earlier : rank_in graph.order node < i
            earlier = let r = ap (rank_in graph.order) same in omega (arith, r, below, low)

            known : (node < length graph.dag.nodes) ⊎ (length graph.dag.nodes ≤ node) → get_or (set ends node value) node 0 ≡ get_or ends node 0
            known (inl within) = set-node within ∙ value_is ∙ sym (are node within earlier)
            known (inr past) = ap (λ (xs : List ℕ). get_or xs node 0) (set_past ends node value (omega (arith, past, each)))
        by (inr differs) = get_or-set_other ends node (get_or (parents_of graph.dag m) k 0) value 0 differs

    parents-same : last_end_of (set ends node value) (parents_of graph.dag m) ≡ last_end_of ends (parents_of graph.dag m)
    parents-same = ends-agree (set ends node value) ends (parents_of graph.dag m) parent-same

    by : (m ≡ node) ⊎ (m ≡ node → ⊥) → IsEnd graph busy (set ends node value) m
    by (inl same) =
        let at : get_or (set ends node value) m 0 ≡ value = ap (λ (p : ℕ). get_or (set ends node value) p 0) same ∙ set-node (omega (arith, same, inside)) in
        at ∙ value_is ∙ ap (λ (p : ℕ). within (last_end_of ends (parents_of graph.dag p) + get_or busy p 0)) (sym same)
        ∙ ap (λ (n : ℕ). within (n + get_or busy m 0)) (sym parents-same)
    by (inr differs) =
        get_or-set_other ends node m value 0 differs ∙ are m inside earlier ∙ ap (λ (n : ℕ). within (n + get_or busy m 0)) (sym parents-same)
      where
        earlier : rank_in graph.order m < i
        earlier = last (cases_eq (rank_in graph.order m) i)
          where
            last : (rank_in graph.order m ≡ i) ⊎ (rank_in graph.order m ≡ i → ⊥) → rank_in graph.order m < i
            last (inl is) = absurd (differs (sym (order.places m inside) ∙ ap (λ (k : ℕ). get_or graph.order k 0) is ∙ sym here))
            last (inr not) = omega (arith, not, low)
