-- For which phase each one waits.
use Rattle.std.proofs.Common.{◌≡◌, ◌≢◌, ℕ, ◌+◌, ◌<◌, ◌≤◌, ◌⊎◌, inl, inr, Bool, true, false, cond, nat_lt, ◌||◌, ◌==◌, List, [], ◌∷◌, ◌++◌, set, take, length, get_or, Option, Some, None, refl, sym, ap, subst, ◌∙◌, arith}
use Rattle.std.specs.Prelude.{max, position, slice_get, IfSome}
use Rattle.std.specs.List.{All, list_any, range_with_len}
use Rattle.std.specs.Str.{bytes_eq}
use Rattle.std.proofs.lemmas.Bool.{cases_eq, cases_lt, ltb-true, ltb-false, eq-eqb, ne_eqb}
use Rattle.std.proofs.lemmas.List.{get_or-set_same, get_or-set_other, get_or_push, get_or_append_left, length_push, length-set}
use Rattle.std.proofs.lemmas.List.Elements.{All-filter}
use Rattle.std.proofs.lemmas.List.Folds.{list_any_more}
use Rattle.std.proofs.lemmas.Option.{same_Some, none-some}
use Rattle.splices_flat.specs.Dag.{Dag}
use Rattle.dag_graph.specs.Graph.{Network, is_edge, names_of, parents_of}
use Rattle.dag_graph.proofs.Lists.{range_below}
use Rattle.run_times.specs.declared.runs.PhaseRun.{PhaseRun}
use Rattle.run_times.specs.declared.critical.Waits.{Waits}
use Rattle.run_times.specs.Critical.{ordinary_in, run_node_of, run_node_in, run_node_at, run_end_at, later_of, latest_with, last_in, IsNoLater, IsLatestOf, IsLastAmong, IsLastOf, IsLastOfParent, WaitsFor, for_same, for_parents, for_all, is_on_path}
use Rattle.run_times.specs.Waits.{AreWaits, with_last}

-- a phase more of a kind
module _ (runs : List PhaseRun) (Of Of' : ℕ → Type 0) (wider : (place : ℕ) → Of place → Of' place) where
  pub latest-same : (latest : Option ℕ) → IsLatestOf runs Of latest → ((place : ℕ) → Of' place → Of place) → IsLatestOf runs Of' latest
  latest-same (Some one) best back = (wider one best.0, λ place of. best.1 place (back place of))
  latest-same None none back = λ place of. none place (back place of)

  is-itself : (one : ℕ) → IsNoLater runs one one
  is-itself one = record { ended = omega arith; same = λ e. omega arith }

  -- no later than one that is no later
  along : (place one other : ℕ) → IsNoLater runs place one → IsNoLater runs one other → IsNoLater runs place other
  along place one other first second =
      let a = first.ended in
      let b = second.ended in
      record {
        ended = omega (arith, a, b);
        same = λ e.
            let before = first.same (omega (arith, a, b, e)) in
            let after = second.same (omega (arith, a, b, e)) in
            omega (arith, before, after);
      }

  pub latest-more : (latest : Option ℕ) (new : ℕ) → IsLatestOf runs Of latest → Of' new → ((place : ℕ) → Of' place → Of place ⊎ (place ≡ new)) → IsLatestOf runs Of' (Some (later_of runs latest new))
  latest-more None new none here split = (here, λ place of. by place (split place of))
    where
      by : (place : ℕ) → Of place ⊎ (place ≡ new) → IsNoLater runs place new
      by place (inl old) = absurd (none place old)
      by place (inr is) = subst (λ (k : ℕ). IsNoLater runs k new) (sym is) (is-itself new)
  latest-more (Some one) new best here split = by (nat_lt (run_end_at runs one) (run_end_at runs new)) refl (nat_lt (run_end_at runs new) (run_end_at runs one)) refl
    where
      -- the new one is the latest
      newest : IsNoLater runs one new → (latest : ℕ) → latest ≡ new → IsLatestOf runs Of' (Some latest)
      newest low latest is = subst (λ (k : ℕ). IsLatestOf runs Of' (Some k)) (sym is) (here, λ place of. case place (split place of))
        where
          case : (place : ℕ) → Of place ⊎ (place ≡ new) → IsNoLater runs place new
          case place (inl old) = along place one new (best.1 place old) low
          case place (inr same) = subst (λ (k : ℕ). IsNoLater runs k new) (sym same) (is-itself new)

      -- the one before is still the latest
      stays : IsNoLater runs new one → (latest : ℕ) → latest ≡ one → IsLatestOf runs Of' (Some latest)
      stays low latest is = subst (λ (k : ℕ). IsLatestOf runs Of' (Some k)) (sym is) (wider one best.0, λ place of. case place (split place of))
        where
          case : (place : ℕ) → Of place ⊎ (place ≡ new) → IsNoLater runs place one
          case place (inl old) = best.1 place old
          case place (inr same) = subst (λ (k : ℕ). IsNoLater runs k one) (sym same) low

      -- both ended in the same moment
      together : run_end_at runs one ≡ run_end_at runs new → (one < new) ⊎ (new ≤ one) → IsLatestOf runs Of' (Some (max one new))
      together same (inl less) = newest (record { ended = omega (arith, same); same = λ e. omega (arith, less) }) (max one new) (omega (arith, less))
      together same (inr more) = stays (record { ended = omega (arith, same); same = λ e. more }) (max one new) (omega (arith, more))

      by : (b : Bool) → nat_lt (run_end_at runs one) (run_end_at runs new) ≡ b → (c : Bool) → nat_lt (run_end_at runs new) (run_end_at runs one) ≡ c → IsLatestOf runs Of' (Some (cond b new (cond c one (max one new))))
      by true is c other = let low = ltb-true (run_end_at runs one) (run_end_at runs new) is in newest (record { ended = omega (arith, low); same = λ e. absurd (omega (arith, low, e)) }) new refl
      by false is true other =
          let low = ltb-true (run_end_at runs new) (run_end_at runs one) other in stays (record { ended = omega (arith, low); same = λ e. absurd (omega (arith, low, e)) }) one refl
      by false is false other =
          let low = ltb-false (run_end_at runs one) (run_end_at runs new) is in
          let high = ltb-false (run_end_at runs new) (run_end_at runs one) other in
          together (omega (arith, low, high)) (cases_lt one new)

-- one of the last phases of a node more
pub among-more : (runs : List PhaseRun) (last : List (Option ℕ)) (parents : List ℕ) (n : ℕ) (latest found : Option ℕ) → found ≡ last_in last (get_or parents n 0)
    → IsLatestOf runs (λ place. IsLastAmong last parents n place) latest → IsLatestOf runs (λ place. IsLastAmong last parents (n + 1) place) (latest_with runs latest found)
among-more runs last parents n latest found is before = by found is
  where
    wider : (place : ℕ) → IsLastAmong last parents n place → IsLastAmong last parents (n + 1) place
    wider place old = record { index = old.index; inside = let h = old.inside in omega (arith, h); is = old.is }

    by : (found : Option ℕ) → found ≡ last_in last (get_or parents n 0) → IsLatestOf runs (λ place. IsLastAmong last parents (n + 1) place) (latest_with runs latest found)
    by (Some new) at =
        latest-more runs (λ place. IsLastAmong last parents n place) (λ place. IsLastAmong last parents (n + 1) place) wider latest new before
        (record { index = n; inside = omega arith; is = sym at })
        (λ place of. split place of (cases_lt of.index n))
      where
        split : (place : ℕ) (of : IsLastAmong last parents (n + 1) place) → (of.index < n) ⊎ (n ≤ of.index) → IsLastAmong last parents n place ⊎ (place ≡ new)
        split place of (inl low) = inl (record { index = of.index; inside = low; is = of.is })
        split place of (inr high) =
            let same : of.index ≡ n = let h = of.inside in omega (arith, h, high) in
            inr (same_Some place new (sym of.is ∙ ap (λ (k : ℕ). last_in last (get_or parents k 0)) same ∙ sym at))
    by None at = latest-same runs (λ place. IsLastAmong last parents n place) (λ place. IsLastAmong last parents (n + 1) place) wider latest before (λ place of. back place of (cases_lt of.index n))
      where
        back : (place : ℕ) (of : IsLastAmong last parents (n + 1) place) → (of.index < n) ⊎ (n ≤ of.index) → IsLastAmong last parents n place
        back place of (inl low) = record { index = of.index; inside = low; is = of.is }
        back place of (inr high) =
            let same : of.index ≡ n = let h = of.inside in omega (arith, h, high) in
            absurd (none-some place (at ∙ ap (λ (k : ℕ). last_in last (get_or parents k 0)) (sym same) ∙ of.is))

-- an ordinary node has a number below their count
pub ordinary-below : (count : ℕ) (o : Option ℕ) (node : ℕ) → ordinary_in count o ≡ Some node → node < count
ordinary-below count None node is = absurd (none-some node is)
ordinary-below count (Some one) node is = by (nat_lt one count) refl is
  where
    by : (b : Bool) → nat_lt one count ≡ b → cond b (Some one) None ≡ Some node → node < count
    by true low at = let same = same_Some one node at in let l = ltb-true one count low in omega (arith, same, l)
    by false low at = absurd (none-some node at)

pub node-below : (graph : Network) (run : PhaseRun) (o : Option ℕ) → o ≡ run_node_of graph run → IfSome o (λ number. number < length graph.dag.nodes)
unfolding run_node_of
node-below graph run (Some number) is = ordinary-below (length graph.dag.nodes) (position (bytes_eq run.node.now) (names_of graph.dag)) number (sym is)
node-below graph run None is = tt

pub node-at-below : (graph : Network) (runs : List PhaseRun) (place node : ℕ) → Some node ≡ run_node_at graph runs place → node < length graph.dag.nodes
node-at-below graph runs place node is = by (slice_get runs place) is
  where
    by : (run : Option PhaseRun) → Some node ≡ run_node_in graph run → node < length graph.dag.nodes
    by (Some run) at = node-below graph run (Some node) at
    by None at = absurd (none-some node (sym at))

pub parents-in : (dag : Dag) (node : ℕ) → All (λ p. p < length dag.nodes) (parents_of dag node)
parents-in dag node =
    All-filter (λ p. list_any (is_edge p node) dag.edges) (λ p. p < length dag.nodes) (range_with_len 0 (length dag.nodes)) (range_below (length dag.nodes))

module _ (graph : Network) (runs : List PhaseRun) where
  -- a node has one last phase before a place
  pub last-one : (node place : ℕ) (o : Option ℕ) (last : ℕ) → IsLastOf graph runs node place o → IsLastOf graph runs node place (Some last) → o ≡ Some last
  last-one node place None last none is = absurd (none last is.0 is.1)
  last-one node place (Some one) last a b = by (cases_lt one last) (cases_lt last one)
    where
      by : (one < last) ⊎ (last ≤ one) → (last < one) ⊎ (one ≤ last) → Some one ≡ Some last
      by (inl less) _ = absurd (a.2 last less b.0 b.1)
      by (inr _) (inl more) = absurd (b.2 one more a.0 a.1)
      by (inr low) (inr high) = let same : one ≡ last = omega (arith, low, high) in ap (λ (k : ℕ). Some k) same

  -- the next phase is of another node
  pub last-kept : (node place : ℕ) (o : Option ℕ) → run_node_at graph runs place ≢ Some node → IsLastOf graph runs node place o → IsLastOf graph runs node (place + 1) o
  last-kept node place None not none = λ other low is. by other is (cases_lt other place) low
    where
      by : (other : ℕ) → run_node_at graph runs other ≡ Some node → (other < place) ⊎ (place ≤ other) → other < place + 1 → ⊥
      by other is (inl less) low = none other less is
      by other is (inr more) low = let same : place ≡ other = omega (arith, more, low) in not (ap (run_node_at graph runs) same ∙ is)
  last-kept node place (Some last) not are = (let l = are.0 in omega (arith, l), are.1, λ other from low is. by other from is (cases_lt other place) low)
    where
      by : (other : ℕ) → last < other → run_node_at graph runs other ≡ Some node → (other < place) ⊎ (place ≤ other) → other < place + 1 → ⊥
      by other from is (inl less) low = are.2 other from less is
      by other from is (inr more) low = let same : place ≡ other = omega (arith, more, low) in not (ap (run_node_at graph runs) same ∙ is)

  -- the next phase is of this node
  pub last-new : (node place : ℕ) → run_node_at graph runs place ≡ Some node → IsLastOf graph runs node (place + 1) (Some place)
  last-new node place is = (omega arith, is, λ other from low at. absurd (omega (arith, from, low)))

  -- the last phase of each node, after the next one
  pub lasts-next : (last : List (Option ℕ)) (place : ℕ) (node : Option ℕ) → node ≡ run_node_at graph runs place → length last ≡ length graph.dag.nodes
      → ((other : ℕ) → other < length graph.dag.nodes → IsLastOf graph runs other place (last_in last other))
      → (other : ℕ) → other < length graph.dag.nodes → IsLastOf graph runs other (place + 1) (last_in (with_last last node place) other)
  lasts-next last place None is each are other inside = last-kept other place (last_in last other) (λ at. none-some other (is ∙ at)) (are other inside)
  lasts-next last place (Some node) is each are other inside = by (cases_eq other node)
    where
      by : (other ≡ node) ⊎ (other ≡ node → ⊥) → IsLastOf graph runs other (place + 1) (get_or (set last node (Some place)) other None)
      by (inl same) =
          let value : get_or (set last node (Some place)) other None ≡ Some place
          = ap (λ (k : ℕ). get_or (set last node (Some place)) k None) same ∙ get_or-set_same last node (Some place) None (omega (arith, same, each, inside)) in
          subst (λ (o : Option ℕ). IsLastOf graph runs other (place + 1) o) (sym value) (last-new other place (sym is ∙ ap (λ (k : ℕ). Some k) (sym same)))
      by (inr differs) =
          subst (λ (o : Option ℕ). IsLastOf graph runs other (place + 1) o) (sym (get_or-set_other last node other (Some place) None differs))
          (last-kept other place (last_in last other) (λ at. differs (same_Some other node (sym at ∙ sym is))) (are other inside))

  -- what is known after the next phase
  pub waits-next : (old new : Waits) (place : ℕ) (node before : Option ℕ) → AreWaits graph runs old place → node ≡ run_node_at graph runs place → WaitsFor graph runs place before
      → new.last.items ≡ with_last old.last.items node place → new.before.items ≡ old.before.items ++ before ∷ [] → new.latest ≡ Some (later_of runs old.latest place)
      → AreWaits graph runs new (place + 1)
  waits-next old new place node before known node_is waits last_is before_is latest_is = record {
    nodes = ap length last_is ∙ length-with old.last.items node place ∙ known.nodes;
    lasts = λ other inside. subst (λ (last : List (Option ℕ)). IsLastOf graph runs other (place + 1) (last_in last other)) (sym last_is)
        (lasts-next old.last.items place node node_is known.nodes known.lasts other inside);
    latest = subst (IsLatestOf runs (λ other. other < place + 1)) (sym latest_is)
        (latest-more runs (λ other. other < place) (λ other. other < place + 1) (λ other less. omega (arith, less)) old.latest place known.latest (omega arith) (λ other low. split other low (cases_lt other place)));
    each = ap length before_is ∙ length_push old.before.items before ∙ ap (λ (k : ℕ). k + 1) known.each;
    befores = λ other low. subst (λ (items : List (Option ℕ)). WaitsFor graph runs other (get_or items other None)) (sym before_is) (by other low (cases_lt other place));
  }
    where
      length-with : (last : List (Option ℕ)) (node : Option ℕ) (place : ℕ) → length (with_last last node place) ≡ length last
      length-with last None place = refl
      length-with last (Some k) place = length-set last k (Some place)

      split : (other : ℕ) → other < place + 1 → (other < place) ⊎ (place ≤ other) → (other < place) ⊎ (other ≡ place)
      split other low (inl less) = inl less
      split other low (inr more) = inr (omega (arith, low, more))

      by : (other : ℕ) → other < place + 1 → (other < place) ⊎ (place ≤ other) → WaitsFor graph runs other (get_or (old.before.items ++ before ∷ []) other None)
      by other low (inl less) =
          subst (λ (o : Option ℕ). WaitsFor graph runs other o) (sym (get_or_append_left old.before.items (before ∷ []) None other (let e = known.each in omega (arith, e, less)))) (known.befores other less)
      by other low (inr more) =
          let same : place ≡ other = omega (arith, low, more) in
          subst (λ (o : Option ℕ). WaitsFor graph runs other o) (sym (get_or_push old.before.items before None other (known.each ∙ same))) (subst (λ (k : ℕ). WaitsFor graph runs k before) same waits)

  -- for which phase the next one waits
  module _ (waits : Waits) (place node : ℕ) (known : AreWaits graph runs waits place) (is : Some node ≡ run_node_at graph runs place) (inside : node < length graph.dag.nodes) where
    pub waits-same : (last : ℕ) → Some last ≡ last_in waits.last.items node → WaitsFor graph runs place (Some last)
    waits-same last at = for_same node last (sym is) (subst (λ (o : Option ℕ). IsLastOf graph runs node place o) (sym at) (known.lasts node inside))

    pub waits-parents : (parents : List ℕ) (latest : Option ℕ) → None ≡ last_in waits.last.items node → parents ≡ parents_of graph.dag node
        → IsLatestOf runs (λ last. IsLastAmong waits.last.items parents (length parents) last) latest → WaitsFor graph runs place latest
    waits-parents parents latest at parents_are best =
        for_parents node latest (sym is) (subst (λ (o : Option ℕ). IsLastOf graph runs node place o) (sym at) (known.lasts node inside))
        (latest-same runs (λ last. IsLastAmong waits.last.items (parents_of graph.dag node) (length (parents_of graph.dag node)) last) (λ last. IsLastOfParent graph runs node place last)
        (λ last of. record {
          index = of.index;
          inside = of.inside;
          is = subst (λ (o : Option ℕ). IsLastOf graph runs (get_or (parents_of graph.dag node) of.index 0) place o) of.is
              (known.lasts (get_or (parents_of graph.dag node) of.index 0) (parents-in graph.dag node of.index 0 of.inside));
        })
        latest (subst (λ (ps : List ℕ). IsLatestOf runs (λ last. IsLastAmong waits.last.items ps (length ps) last) latest) parents_are best)
        (λ last of. record {
          index = of.index;
          inside = of.inside;
          is = last-one (get_or (parents_of graph.dag node) of.index 0) place (last_in waits.last.items (get_or (parents_of graph.dag node) of.index 0)) last
              (known.lasts (get_or (parents_of graph.dag node) of.index 0) (parents-in graph.dag node of.index 0 of.inside)) of.is;
        }))

  -- a phase waited for one before it
  latest-earlier : (Of : ℕ → Type 0) (place before : ℕ) (latest : Option ℕ) → latest ≡ Some before → ((k : ℕ) → Of k → k < place) → IsLatestOf runs Of latest → before < place
  latest-earlier Of place before None is all best = absurd (none-some before is)
  latest-earlier Of place before (Some one) is all best = let same = same_Some one before is in let low = all one best.0 in omega (arith, same, low)

  waited-earlier : (place before : ℕ) (o : Option ℕ) → o ≡ Some before → WaitsFor graph runs place o → before < place
  waited-earlier place before o is (for_same node last at last_is) = let same = same_Some last before is in let low = last_is.0 in omega (arith, same, low)
  waited-earlier place before o is (for_parents node latest at none best) = latest-earlier (λ last. IsLastOfParent graph runs node place last) place before latest is (λ k of. of.is.0) best
  waited-earlier place before o is (for_all latest at best) = latest-earlier (λ k. k < place) place before latest is (λ k of. of) best

  pub is-earlier : (place before : ℕ) → WaitsFor graph runs place (Some before) → before < place
  is-earlier place before waits = waited-earlier place before (Some before) refl waits

-- a mark more
pub mark-more : (marks : List Bool) (path : List ℕ) (n count : ℕ) → length marks ≡ count → n < length path → ((k : ℕ) → k < count → get_or marks k false ≡ is_on_path (take n path) k) → get_or path n 0 < count
    → (k : ℕ) → k < count → get_or (set marks (get_or path n 0) true) k false ≡ is_on_path (take (n + 1) path) k
mark-more marks path n count each inside are low k within = by (cases_eq k (get_or path n 0))
  where
    more : is_on_path (take (n + 1) path) k ≡ (is_on_path (take n path) k || (get_or path n 0 == k))
    more = list_any_more (λ one. one == k) path n 0 inside

    or-true : (b : Bool) → (b || true) ≡ true
    or-true true = refl
    or-true false = refl

    or-false : (b : Bool) → (b || false) ≡ b
    or-false true = refl
    or-false false = refl

    by : (k ≡ get_or path n 0) ⊎ (k ≡ get_or path n 0 → ⊥) → get_or (set marks (get_or path n 0) true) k false ≡ is_on_path (take (n + 1) path) k
    by (inl same) =
        ap (λ (i : ℕ). get_or (set marks (get_or path n 0) true) i false) same ∙ get_or-set_same marks (get_or path n 0) true false (omega (arith, each, low))
        ∙ sym (more ∙ ap (λ (b : Bool). is_on_path (take n path) k || b) (eq-eqb (get_or path n 0) k (sym same)) ∙ or-true (is_on_path (take n path) k))
    by (inr differs) =
        get_or-set_other marks (get_or path n 0) k true false differs ∙ are k within
        ∙ sym (more ∙ ap (λ (b : Bool). is_on_path (take n path) k || b) (ne_eqb (get_or path n 0) k (λ e. differs (sym e))) ∙ or-false (is_on_path (take n path) k))

-- a place that no mark is for changes none
pub mark-passed : (marks : List Bool) (path : List ℕ) (n count : ℕ) → n < length path → ((k : ℕ) → k < count → get_or marks k false ≡ is_on_path (take n path) k) → count ≤ get_or path n 0
    → (k : ℕ) → k < count → get_or marks k false ≡ is_on_path (take (n + 1) path) k
mark-passed marks path n count inside are high k within =
    are k within ∙ sym (list_any_more (λ one. one == k) path n 0 inside ∙ ap (λ (b : Bool). is_on_path (take n path) k || b) (ne_eqb (get_or path n 0) k (λ e. absurd (omega (arith, e, high, within)))) ∙ or-false (is_on_path (take n path) k))
  where
    or-false : (b : Bool) → (b || false) ≡ b
    or-false true = refl
    or-false false = refl
