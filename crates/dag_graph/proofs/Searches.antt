-- The steps of a search.
use Rattle.std.proofs.Common.{◌≡◌, inl, inr, ℕ, ◌+◌, ◌<◌, ◌≤◌, true, false, ◌++◌, List, [], ◌∷◌, length, get_or, set, take, slice_index, sym, ◌∙◌, subst, arith, ⊎_elim}
use Rattle.std.specs.List.{Contains}
use Rattle.std.proofs.lemmas.Bool.{cases_lt, cases_Bool, false≢true, cond-true, cond-false}
use Rattle.std.proofs.lemmas.List.{length-set, length_push, take_more, get_or-set_same, get_or_push, get_or_append_left}
use Rattle.std.proofs.lemmas.List.Elements.{Contains-append_left, Contains-push}
use Rattle.splices_flat.specs.declared.flat.Edge.{Edge}
use Rattle.std.specs.Prelude.{replicate, ◌↔◌}
use Rattle.std.proofs.lemmas.List.{get_or-replicate, length-replicate, get_or_past, get_or_default}
use Rattle.dag_graph.specs.Climb.{up}
use Rattle.dag_graph.proofs.Told.{Tells}
use Rattle.dag_graph.specs.Graph.{IsParent, IsAncestor, direct, through, rank_in}
use Rattle.dag_graph.specs.Search.{Searched, IsSearch, MeetsNodes, IsUpward, is_met, with_met}
use Rattle.dag_graph.proofs.Ranks.{within_push, within_kept, rank_at}
use Rattle.dag_graph.proofs.Climbs.{count_falls, mark_kept, mark_new}

-- one node more that was met before
old_more : (nodes : List ℕ) (a b : Searched) (v : ℕ) → is_met b v ≡ true → MeetsNodes nodes a b → MeetsNodes (nodes ++ v ∷ []) a b
old_more nodes a b v was is = record {
  search = is.search;
  len = is.len;
  kept = is.kept;
  only = λ w now. ⊎_elim (λ before. inl before) (λ there. inr (Contains-append_left nodes (v ∷ []) w there)) (is.only w now);
  all = λ k lt. ⊎_elim
      (λ low. subst (λ (w : ℕ). is_met b w ≡ true) (sym (get_or_append_left nodes (v ∷ []) 0 k low)) (is.all k low))
      (λ high. let at : length nodes ≡ k = omega (arith, length_push nodes v) in subst (λ (w : ℕ). is_met b w ≡ true) (sym (get_or_push nodes v 0 k at)) was)
      (cases_lt k (length nodes));
  front = is.front;
  longer = is.longer;
}

-- one node more that is new
new_more : (nodes : List ℕ) (a b : Searched) (v : ℕ) → v < length b.met → is_met b v ≡ false → MeetsNodes nodes a b → MeetsNodes (nodes ++ v ∷ []) a (record { met = set b.met v true; found = b.found ++ v ∷ [] })
new_more nodes a b v small new is = record {
  search = record {
    below = λ i lt.
        let len : length (set b.met v true) ≡ length b.met = length-set b.met v true in
        subst (λ (n : ℕ). slice_index (b.found ++ v ∷ []) i < n) (sym len) (⊎_elim
        (λ low. subst (λ (w : ℕ). w < length b.met) (sym (get_or_append_left b.found (v ∷ []) 0 i low)) (is.search.below i low))
        (λ high. let at : length b.found ≡ i = omega (arith, length_push b.found v) in subst (λ (w : ℕ). w < length b.met) (sym (get_or_push b.found v 0 i at)) small)
        (cases_lt i (length b.found)));
    marked = λ i lt. ⊎_elim
        (λ low. subst (λ (w : ℕ). get_or (set b.met v true) w false ≡ true) (sym (get_or_append_left b.found (v ∷ []) 0 i low)) (mark_kept b.met v (slice_index b.found i) small (is.search.marked i low)))
        (λ high. let at : length b.found ≡ i = omega (arith, length_push b.found v) in subst (λ (w : ℕ). get_or (set b.met v true) w false ≡ true) (sym (get_or_push b.found v 0 i at)) (get_or-set_same b.met v true false small))
        (cases_lt i (length b.found));
    listed = λ w low was. ⊎_elim
        (λ same. subst (λ (u : ℕ). rank_in (b.found ++ v ∷ []) u < length (b.found ++ v ∷ [])) (sym same) (within_push b.found v))
        (λ before. within_kept b.found v w (is.search.listed w (omega (arith, length-set b.met v true)) before.1))
        (mark_new b.met v w was);
    count = omega (arith, length_push b.found v, count_falls b.met v false small new, is.search.count, length-set b.met v true);
  };
  len = length-set b.met v true ∙ is.len;
  kept = λ w was. mark_kept b.met v w small (is.kept w was);
  only = λ w now. ⊎_elim
      (λ same. inr (subst (λ (u : ℕ). Contains (nodes ++ v ∷ []) u) (sym same) (Contains-push nodes v)))
      (λ before. ⊎_elim (λ old. inl old) (λ there. inr (Contains-append_left nodes (v ∷ []) w there)) (is.only w before.1))
      (mark_new b.met v w now);
  all = λ k lt. ⊎_elim
      (λ low. subst (λ (w : ℕ). get_or (set b.met v true) w false ≡ true) (sym (get_or_append_left nodes (v ∷ []) 0 k low)) (mark_kept b.met v (slice_index nodes k) small (is.all k low)))
      (λ high. let at : length nodes ≡ k = omega (arith, length_push nodes v) in subst (λ (w : ℕ). get_or (set b.met v true) w false ≡ true) (sym (get_or_push nodes v 0 k at)) (get_or-set_same b.met v true false small))
      (cases_lt k (length nodes));
  front = λ i lt. get_or_append_left b.found (v ∷ []) 0 i (omega (arith, is.longer)) ∙ is.front i lt;
  longer = omega (arith, is.longer, length_push b.found v);
}

-- one node more
pub meets_more : (nodes : List ℕ) (i : ℕ) (a b : Searched) → i < length nodes → slice_index nodes i < length b.met → MeetsNodes (take i nodes) a b → MeetsNodes (take (i + 1) nodes) a (with_met b (slice_index nodes i))
meets_more nodes i a b lt small is =
    subst (λ (xs : List ℕ). MeetsNodes xs a (with_met b (slice_index nodes i))) (sym (take_more nodes i 0 lt)) (⊎_elim
    (λ was. subst (MeetsNodes (take i nodes ++ slice_index nodes i ∷ []) a) (sym (cond-true (is_met b (slice_index nodes i)) b (record { met = set b.met (slice_index nodes i) true; found = b.found ++ slice_index nodes i ∷ [] }) was)) (old_more (take i nodes) a b (slice_index nodes i) was is))
    (λ new. subst (MeetsNodes (take i nodes ++ slice_index nodes i ∷ []) a) (sym (cond-false (is_met b (slice_index nodes i)) b (record { met = set b.met (slice_index nodes i) true; found = b.found ++ slice_index nodes i ∷ [] }) new)) (new_more (take i nodes) a b (slice_index nodes i) small new is))
    (cases_Bool (is_met b (slice_index nodes i))))

none_met : (n v : ℕ) → get_or (replicate n false) v false ≡ false
none_met n v = ⊎_elim
    (λ low. get_or-replicate n v false false low)
    (λ high. get_or_past (replicate n false) v false (omega (arith, high, length-replicate n false)))
    (cases_lt v n)

-- a parent of an ancestor is an ancestor
above : (edges : List Edge) (a p v : ℕ) → IsParent edges a p → IsAncestor edges p v → IsAncestor edges a v
above edges a p v first (direct is) = through (direct first) is
above edges a p v first (through {p = q} more is) = through (above edges a p q first more) is

pub upward_begins : (count : ℕ) (edges : List Edge) (parents : List (List ℕ)) (node : ℕ) (s : Searched) → Tells count edges parents → MeetsNodes (up parents node) (record { met = replicate (length parents) false; found = [] }) s → IsUpward edges parents node 0 s
upward_begins count edges parents node s told is = record {
  search = is.search;
  len = is.len ∙ length-replicate (length parents) false;
  done_within = omega arith;
  first = is.all;
  closed = λ i k lt. absurd (omega arith);
  sound = λ v was. ⊎_elim
      (λ bad. absurd (false≢true (sym (none_met (length parents) v) ∙ bad)))
      (λ there. direct (told.said v node there))
      (is.only v was);
}

pub upward_more : (count : ℕ) (edges : List Edge) (parents : List (List ℕ)) (node done : ℕ) (s t : Searched) → Tells count edges parents → IsUpward edges parents node done s → done < length s.found → MeetsNodes (up parents (slice_index s.found done)) s t → IsUpward edges parents node (done + 1) t
upward_more count edges parents node done s t told is lt more =
    let met_here : is_met s (slice_index s.found done) ≡ true = is.search.marked done lt in
    record {
      search = more.search;
      len = more.len ∙ is.len;
      done_within = omega (arith, more.longer);
      first = λ k low. more.kept (slice_index (up parents node) k) (is.first k low);
      closed = λ i k less low.
          let same : slice_index t.found i ≡ slice_index s.found i = more.front i (omega arith) in
          let inside : k < length (up parents (slice_index s.found i)) = subst (λ (v : ℕ). k < length (up parents v)) same low in
          subst (λ (v : ℕ). is_met t (slice_index (up parents v) k) ≡ true) (sym same) (⊎_elim
          (λ before. more.kept (slice_index (up parents (slice_index s.found i)) k) (is.closed i k before inside))
          (λ high.
          let now : done ≡ i = omega arith in
          subst (λ (j : ℕ). is_met t (slice_index (up parents (slice_index s.found j)) k) ≡ true) now (more.all k (subst (λ (j : ℕ). k < length (up parents (slice_index s.found j))) (sym now) inside)))
          (cases_lt i done));
      sound = λ v was. ⊎_elim
          (λ old. is.sound v old)
          (λ there. above edges v (slice_index s.found done) node (told.said v (slice_index s.found done) there) (is.sound (slice_index s.found done) met_here))
          (more.only v was);
    }

reached : (count : ℕ) (edges : List Edge) (parents : List (List ℕ)) (s : Searched) → Tells count edges parents → IsSearch s → length s.met ≡ length parents → ((i k : ℕ) → i < length s.found → k < length (up parents (slice_index s.found i)) → is_met s (slice_index (up parents (slice_index s.found i)) k) ≡ true) → (a v : ℕ) → IsAncestor edges a v → ((k : ℕ) → k < length (up parents v) → is_met s (slice_index (up parents v) k) ≡ true) → is_met s a ≡ true
reached count edges parents s told search len closed a v (direct is) all =
    let there = told.listed a v is in
    let at : slice_index (up parents v) there.0 ≡ a = get_or_default (up parents v) there.0 0 a there.1 ∙ there.2 in
    subst (λ (w : ℕ). is_met s w ≡ true) at (all there.0 there.1)
reached count edges parents s told search len closed a v (through {p = p} more is) all =
    let there = told.listed p v is in
    let at : slice_index (up parents v) there.0 ≡ p = get_or_default (up parents v) there.0 0 p there.1 ∙ there.2 in
    let met : is_met s p ≡ true = subst (λ (w : ℕ). is_met s w ≡ true) at (all there.0 there.1) in
    let low : p < length s.met = (let h = told.parent_below p v is in omega (arith, h, told.len, len)) in
    let found : rank_in s.found p < length s.found = search.listed p low met in
    let place : slice_index s.found (rank_in s.found p) ≡ p = rank_at s.found p found in
    reached count edges parents s told search len closed a p more
    (λ k inside. subst (λ (w : ℕ). is_met s (slice_index (up parents w) k) ≡ true) place (closed (rank_in s.found p) k found (subst (λ (w : ℕ). k < length (up parents w)) (sym place) inside)))

pub upward_over : (count : ℕ) (edges : List Edge) (parents : List (List ℕ)) (node done : ℕ) (s : Searched) → Tells count edges parents → IsUpward edges parents node done s → length s.found ≤ done → (a : ℕ) → (is_met s a ≡ true) ↔ IsAncestor edges a node
upward_over count edges parents node done s told is over a =
    (is.sound a, λ up_there. reached count edges parents s told is.search is.len (λ i k lt. is.closed i k (omega arith)) a node up_there is.first)

-- both ends of a line of ancestors are nodes
pub ancestor_below : (count : ℕ) (edges : List Edge) (parents : List (List ℕ)) → Tells count edges parents → (a v : ℕ) → IsAncestor edges a v → a < count
ancestor_below count edges parents told a v (direct is) = told.parent_below a v is
ancestor_below count edges parents told a v (through {p = p} more is) = ancestor_below count edges parents told a p more

pub descendant_below : (count : ℕ) (edges : List Edge) (parents : List (List ℕ)) → Tells count edges parents → (a v : ℕ) → IsAncestor edges a v → v < count
descendant_below count edges parents told a v (direct is) = told.child_below a v is
descendant_below count edges parents told a v (through {p = p} more is) = told.child_below p v is
