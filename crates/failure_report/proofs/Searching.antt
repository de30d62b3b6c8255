-- The steps of a search.
use Rattle.std.proofs.Common.{◌≡◌, ℕ, ◌+◌, ◌<◌, ◌≤◌, Bool, true, false, not, refl, List, [], length, get_or, slice_index, sym, ap, ◌∙◌, subst, arith, ⊎_elim}
use Rattle.std.specs.Prelude.{replicate, ◌↔◌, Vec}
use Rattle.std.specs.Global.{Global}
use Rattle.std.specs.List.{All, count_by}
use Rattle.std.proofs.lemmas.Bool.{cases_lt, false≢true}
use Rattle.std.proofs.lemmas.List.{get_or-replicate, length-replicate, length-map, get_or_past, get_or_default, get_or-map}
use Rattle.std.proofs.lemmas.List.Filters.{length-filter_both}
use Rattle.std.proofs.lemmas.List.Sums.{length-filter}
use Rattle.dag_graph.specs.Graph.{rank_in}
use Rattle.dag_graph.specs.Search.{Searched, IsSearch, MeetsNodes, is_met}
use Rattle.dag_graph.proofs.Ranks.{rank_at}
use Rattle.failure_report.specs.Reaching.{nodes_in, next_in, ListsAreBelow, Reaches, beside, behind, IsOnTheWay}

none_met : (n v : ℕ) → get_or (replicate n false) v false ≡ false
none_met n v = ⊎_elim
    (λ low. get_or-replicate n v false false low)
    (λ high. get_or_past (replicate n false) v false (omega (arith, high, length-replicate n false)))
    (cases_lt v n)

-- the slice of a list that was read
pub read_list : (lists : List (Vec ℕ Global)) (node : ℕ) (list : Vec ℕ Global) (slice : List ℕ) → node < length lists → list ≡ get_or lists node list → slice ≡ list.items
    → slice ≡ next_in (nodes_in lists) node
read_list lists node list slice inside is items =
    items ∙ ap (λ (v : Vec ℕ Global). v.items) is ∙ sym (get_or-map (λ (v : Vec ℕ Global). v.items) lists node list [] inside)

pub begins : (lists : List (List ℕ)) (from : ℕ) (s : Searched) → MeetsNodes (next_in lists from) (record { met = replicate (length lists) false; found = [] }) s → IsOnTheWay lists from 0 s
begins lists from s is = record {
  search = is.search;
  len = is.len ∙ length-replicate (length lists) false;
  within = omega arith;
  first = is.all;
  closed = λ i k lt. absurd (omega arith);
  sound = λ v was. ⊎_elim
      (λ bad. absurd (false≢true (sym (none_met (length lists) v) ∙ bad)))
      (λ there. beside there)
      (is.only v was);
}

pub more : (lists : List (List ℕ)) (from done : ℕ) (s t : Searched) → IsOnTheWay lists from done s → done < length s.found → MeetsNodes (next_in lists (slice_index s.found done)) s t
    → IsOnTheWay lists from (done + 1) t
more lists from done s t is lt now =
    let met_here : is_met s (slice_index s.found done) ≡ true = is.search.marked done lt in
    record {
      search = now.search;
      len = now.len ∙ is.len;
      within = omega (arith, now.longer);
      first = λ k low. now.kept (slice_index (next_in lists from) k) (is.first k low);
      closed = λ i k less low.
          let same : slice_index t.found i ≡ slice_index s.found i = now.front i (omega arith) in
          let inside : k < length (next_in lists (slice_index s.found i)) = subst (λ (v : ℕ). k < length (next_in lists v)) same low in
          subst (λ (v : ℕ). is_met t (slice_index (next_in lists v) k) ≡ true) (sym same) (⊎_elim
          (λ before. now.kept (slice_index (next_in lists (slice_index s.found i)) k) (is.closed i k before inside))
          (λ high.
          let here : done ≡ i = omega arith in
          subst (λ (j : ℕ). is_met t (slice_index (next_in lists (slice_index s.found j)) k) ≡ true) here (now.all k (subst (λ (j : ℕ). k < length (next_in lists (slice_index s.found j))) (sym here) inside)))
          (cases_lt i done));
      sound = λ v was. ⊎_elim
          (λ old. is.sound v old)
          (λ there. behind (is.sound (slice_index s.found done) met_here) there)
          (now.only v was);
    }

-- what is met has a mark
met_below : (s : Searched) (v : ℕ) → is_met s v ≡ true → v < length s.met
met_below s v was = ⊎_elim
    (λ low. low)
    (λ high. absurd (false≢true (sym (get_or_past s.met v false high) ∙ was)))
    (cases_lt v (length s.met))

reached : (lists : List (List ℕ)) (from : ℕ) (s : Searched) → IsSearch s
    → ((k : ℕ) → k < length (next_in lists from) → is_met s (slice_index (next_in lists from) k) ≡ true)
    → ((i k : ℕ) → i < length s.found → k < length (next_in lists (slice_index s.found i)) → is_met s (slice_index (next_in lists (slice_index s.found i)) k) ≡ true)
    → (v : ℕ) → Reaches (next_in lists) from v → is_met s v ≡ true
reached lists from s search first closed v (beside there) =
    let at : slice_index (next_in lists from) there.0 ≡ v = get_or_default (next_in lists from) there.0 0 v there.1 ∙ there.2 in
    subst (λ (w : ℕ). is_met s w ≡ true) at (first there.0 there.1)
reached lists from s search first closed v (behind {between = p} is there) =
    let met : is_met s p ≡ true = reached lists from s search first closed p is in
    let found : rank_in s.found p < length s.found = search.listed p (met_below s p met) met in
    let place : slice_index s.found (rank_in s.found p) ≡ p = rank_at s.found p found in
    let at : slice_index (next_in lists p) there.0 ≡ v = get_or_default (next_in lists p) there.0 0 v there.1 ∙ there.2 in
    let inside : there.0 < length (next_in lists (slice_index s.found (rank_in s.found p))) = subst (λ (w : ℕ). there.0 < length (next_in lists w)) (sym place) there.1 in
    let all = closed (rank_in s.found p) there.0 found inside in
    subst (λ (w : ℕ). is_met s w ≡ true) at (subst (λ (w : ℕ). is_met s (slice_index (next_in lists w) there.0) ≡ true) place all)

pub over : (lists : List (List ℕ)) (from done : ℕ) (s : Searched) → IsOnTheWay lists from done s → length s.found ≤ done → (v : ℕ) → (is_met s v ≡ true) ↔ Reaches (next_in lists) from v
over lists from done s is end v =
    (is.sound v, reached lists from s is.search is.first (λ i k lt. is.closed i k (omega arith)) v)

-- a search that has met nothing
abbrev pub fresh : ℕ → Searched
fresh n = record { met = replicate n false; found = [] }

-- the numbers of a list that was read are below
pub list_below : (lists : List (Vec ℕ Global)) (node : ℕ) (list : Vec ℕ Global) (slice : List ℕ) (n : ℕ) → node < length lists → list ≡ get_or lists node list → slice ≡ list.items
    → ListsAreBelow (length lists) (nodes_in lists) → n ≡ length lists → All (λ k. k < n) slice
list_below lists node list slice n inside is items below same =
    let lt : node < length (nodes_in lists) = omega (arith, inside, length-map lists (λ (v : Vec ℕ Global). v.items)) in
    subst (λ (m : ℕ). All (λ k. k < m) slice) (sym same) (subst (All (λ k. k < length lists)) (sym (read_list lists node list slice inside is items)) (below node [] lt))

count_marks : (marks : List Bool) → count_by (λ b. b) marks + count_by (λ b. not b) marks ≡ length marks
count_marks marks =
    omega (arith, length-filter_both (λ b. b) (λ b. not b) (λ _. refl) marks, length-filter (λ (b : Bool). b) marks, length-filter (λ b. not b) marks)

-- what was found is what is marked
pub met_count : (s : Searched) → IsSearch s → length s.found ≡ count_by (λ mark. mark) s.met
met_count s is = let a = count_marks s.met in let b = is.count in omega (arith, a, b)
