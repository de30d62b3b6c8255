-- Lists of parents and children, as the edges say.
use Rattle.std.proofs.Common.{◌≡◌, ℕ, zero, suc, ◌+◌, ◌*◌, ◌<◌, ◌≤◌, Bool, true, false, cond, ◌&&◌, ◌||◌, ◌==◌, ◌++◌, List, [], ◌∷◌, length, get_or, set, take, map, filter, refl, sym, ap, ◌∙◌, subst, arith, ⊎_elim}
use Rattle.std.proofs.lemmas.Bool.{cases_Bool, cases_lt, cases_eq, and_left, and_right, or_from, or_left, eq-eqb, ne_eqb}
use Rattle.std.proofs.lemmas.List.{get_or-set_same, get_or-set_other, length_push, get_or_push, get_or_append_left, get_or_default, get_or_read}
use Rattle.std.proofs.lemmas.List.Folds.{list_any_more, list_any-append, list_any_at}
use Rattle.std.proofs.lemmas.List.FromFn.{length-range_with_len, get_or-range_with_len, length-map-range_with_len, get_or-map-range_with_len}
use Rattle.std.proofs.lemmas.List.Elements.{All-filter, All-head, All-tail}
use Rattle.std.proofs.lemmas.Grind.{common_steps}
use Rattle.std.proofs.Math.Bool.{or-false}
use Rattle.std.specs.List.{range_with_len, list_any, All}
use Rattle.splices_flat.specs.declared.flat.Edge.{Edge}
use Rattle.splices_flat.specs.Dag.{Dag, IsBelow}
use Rattle.std.specs.List.{sum_by, count_by}
use Rattle.std.proofs.lemmas.List.Sums.{sum_by-le, length-filter, count_by-le-length}
use Rattle.dag_graph.specs.Numbers.{has, AreBelow, holders_of}
use Rattle.dag_graph.specs.Graph.{is_edge, parents_among, children_among, parents_of, children_of, all_parents_of, all_children_of}
use Rattle.dag_graph.proofs.Lists.{range_below}

-- one edge more
pub named_more : (lists : List (List ℕ)) (edges : List Edge) (i p c : ℕ) (d : Edge) (new here : List ℕ) → i < length edges → (get_or edges i d).parent < length lists → here ≡ get_or lists (get_or edges i d).parent here → new ≡ here ++ (get_or edges i d).child ∷ [] → has (get_or lists p []) c ≡ list_any (is_edge p c) (take i edges) → has (get_or (set lists (get_or edges i d).parent new) p []) c ≡ list_any (is_edge p c) (take (i + 1) edges)
named_more lists edges i p c d new here lt within read is before =
    let e : Edge = get_or edges i d in
    let more : list_any (is_edge p c) (take (i + 1) edges) ≡ (list_any (is_edge p c) (take i edges) || ((e.parent == p) && (e.child == c))) = list_any_more (is_edge p c) edges i d lt in
    let seen : here ≡ get_or lists e.parent [] = get_or_read lists e.parent here within read [] in
    ⊎_elim
    (λ same.
    let value : get_or (set lists e.parent new) p [] ≡ get_or lists p [] ++ e.child ∷ [] = ap (λ (k : ℕ). get_or (set lists e.parent new) k []) same ∙ get_or-set_same lists e.parent new [] within ∙ is ∙ ap (λ (ns : List ℕ). ns ++ e.child ∷ []) seen ∙ ap (λ (k : ℕ). get_or lists k [] ++ e.child ∷ []) (sym same) in
    let yes : (e.parent == p) ≡ true = eq-eqb _ _ (sym same) in
    ap (λ (ns : List ℕ). has ns c) value ∙ list_any-append (λ m. m == c) (get_or lists p []) (e.child ∷ []) ∙ ap (λ (b : Bool). b || ((e.child == c) || false)) before ∙ ap (λ (b : Bool). list_any (is_edge p c) (take i edges) || b) (or-false (e.child == c) ∙ ap (λ (b : Bool). b && (e.child == c)) (sym yes)) ∙ sym more)
    (λ differs.
    let no : (e.parent == p) ≡ false = ne_eqb _ _ (λ e. differs (sym e)) in
    ap (λ (ns : List ℕ). has ns c) (get_or-set_other lists e.parent p new [] differs) ∙ before ∙ sym (more ∙ ap (λ (b : Bool). list_any (is_edge p c) (take i edges) || (b && (e.child == c))) no ∙ or-false (list_any (is_edge p c) (take i edges))))
    (cases_eq p e.parent)

pushed : (count n k : ℕ) (xs : List ℕ) → n < count → k < length (xs ++ n ∷ []) → (k < length xs → get_or xs k 0 < count) → get_or (xs ++ n ∷ []) k 0 < count
pushed count n k xs small lt before = ⊎_elim
    (λ low. subst (λ (m : ℕ). m < count) (sym (get_or_append_left xs (n ∷ []) 0 k low)) (before low))
    (λ high. let at : length xs ≡ k = omega (arith, length_push xs n) in subst (λ (m : ℕ). m < count) (sym (get_or_push xs n 0 k at)) small)
    (cases_lt k (length xs))

-- a number below the bound more
pub below_more : (count p n : ℕ) (lists : List (List ℕ)) (new here : List ℕ) → p < length lists → n < count → here ≡ get_or lists p here → new ≡ here ++ n ∷ [] → AreBelow count lists → AreBelow count (set lists p new)
below_more count p n lists new here within small read is below = λ v k low lt.
    let seen : here ≡ get_or lists p [] = get_or_read lists p here within read [] in
    ⊎_elim
    (λ same.
    let value : get_or (set lists p new) v [] ≡ get_or lists p [] ++ n ∷ [] = ap (λ (k : ℕ). get_or (set lists p new) k []) same ∙ get_or-set_same lists p new [] within ∙ is ∙ ap (λ (ns : List ℕ). ns ++ n ∷ []) seen in
    let inside : k < length (get_or lists p [] ++ n ∷ []) = subst (λ (ns : List ℕ). k < length ns) value lt in
    subst (λ (ns : List ℕ). get_or ns k 0 < count) (sym value) (pushed count n k (get_or lists p []) small inside (λ there. below p k within there)))
    (λ differs.
    let value : get_or (set lists p new) v [] ≡ get_or lists v [] = get_or-set_other lists p v new [] differs in
    subst (λ (ns : List ℕ). get_or ns k 0 < count) (sym value) (below v k (grind (arith, common_steps)) (subst (λ (ns : List ℕ). k < length ns) value lt)))
    (cases_eq v p)

agree : (p q : ℕ → Bool) (a n : ℕ) → ((v : ℕ) → a ≤ v → v < a + n → p v ≡ q v) → filter p (range_with_len a n) ≡ filter q (range_with_len a n)
agree p q a zero same = refl
agree p q a (suc n) same =
    ap (λ (b : Bool). cond b (a ∷ filter p (range_with_len (a + 1) n)) (filter p (range_with_len (a + 1) n))) (same a (omega arith) (omega arith))
    ∙ ap (λ (ns : List ℕ). cond (q a) (a ∷ ns) ns) (agree p q (a + 1) n (λ v low high. same v (omega arith) (omega arith)))

pub has_filter : (q : ℕ → Bool) (xs : List ℕ) (p : ℕ) → has (filter q xs) p ≡ (has xs p && q p)
has_filter q [] p = refl
has_filter q (x ∷ xs) p =
    let h = has_filter q xs p in
    ⊎_elim
    (λ same.
    let yes : (x == p) ≡ true = eq-eqb _ _ same in
    let right : (((x == p) || has xs p) && q p) ≡ q p = ap (λ (b : Bool). (b || has xs p) && q p) yes in
    ⊎_elim
    (λ t. ap (λ (b : Bool). has (cond b (x ∷ filter q xs) (filter q xs)) p) t ∙ or_left _ _ yes ∙ sym (ap q (sym same) ∙ t) ∙ sym right)
    (λ f. ap (λ (b : Bool). has (cond b (x ∷ filter q xs) (filter q xs)) p) f ∙ h ∙ and_right _ _ (ap q (sym same) ∙ f) ∙ sym (ap q (sym same) ∙ f) ∙ sym right)
    (cases_Bool (q x)))
    (λ differs.
    let no : (x == p) ≡ false = ne_eqb _ _ differs in
    let right : (((x == p) || has xs p) && q p) ≡ (has xs p && q p) = ap (λ (b : Bool). (b || has xs p) && q p) no in
    ⊎_elim
    (λ t. ap (λ (b : Bool). has (cond b (x ∷ filter q xs) (filter q xs)) p) t ∙ ap (λ (b : Bool). b || has (filter q xs) p) no ∙ h ∙ sym right)
    (λ f. ap (λ (b : Bool). has (cond b (x ∷ filter q xs) (filter q xs)) p) f ∙ h ∙ sym right)
    (cases_Bool (q x)))
    (cases_eq x p)

pub has_range : (q : ℕ → Bool) (n p : ℕ) → p < n → has (filter q (range_with_len 0 n)) p ≡ q p
has_range q n p lt =
    let at : get_or (range_with_len 0 n) p 0 ≡ 0 + p = get_or-range_with_len 0 n p 0 lt in
    let inside : p < length (range_with_len 0 n) = omega (arith, length-range_with_len 0 n) in
    let there : has (range_with_len 0 n) p ≡ true = list_any_at (λ m. m == p) (range_with_len 0 n) p 0 inside (eq-eqb _ _ (omega arith)) in
    has_filter q (range_with_len 0 n) p ∙ ap (λ (b : Bool). b && q p) there

pub parents_are : (count : ℕ) (edges : List Edge) (raw : List (List ℕ)) → length raw ≡ count → ((p c : ℕ) → p < count → has (get_or raw p []) c ≡ list_any (is_edge p c) edges) → (c : ℕ) → holders_of raw c ≡ parents_among count edges c
parents_are count edges raw len each c =
    ap (λ (n : ℕ). filter (λ v. has (get_or raw v []) c) (range_with_len 0 n)) len
    ∙ agree (λ v. has (get_or raw v []) c) (λ v. list_any (is_edge v c) edges) 0 count (λ v low high. each v c (omega arith))

pub children_are : (count : ℕ) (edges : List Edge) (parents : List (List ℕ)) → parents ≡ map (parents_among count edges) (range_with_len 0 count) → (p : ℕ) → p < count → holders_of parents p ≡ children_among count edges p
children_are count edges parents is p lt =
    let len : length parents ≡ count = ap length is ∙ length-map-range_with_len (parents_among count edges) 0 count in
    ap (λ (n : ℕ). filter (λ v. has (get_or parents v []) p) (range_with_len 0 n)) len
    ∙ agree (λ v. has (get_or parents v []) p) (λ v. list_any (is_edge p v) edges) 0 count
    (λ v low high.
    let small : v < count = omega arith in
    let at : get_or parents v [] ≡ parents_among count edges v = ap (λ (ls : List (List ℕ)). get_or ls v []) is ∙ get_or-map-range_with_len (parents_among count edges) 0 count v v [] small (omega arith) in
    ap (λ (ns : List ℕ). has ns p) at ∙ has_range (λ u. list_any (is_edge u v) edges) count p lt)

map_agree : (f g : ℕ → List ℕ) (a n : ℕ) → ((v : ℕ) → a ≤ v → v < a + n → f v ≡ g v) → map f (range_with_len a n) ≡ map g (range_with_len a n)
map_agree f g a zero same = refl
map_agree f g a (suc n) same =
    ap (λ (ns : List ℕ). ns ∷ map f (range_with_len (a + 1) n)) (same a (omega arith) (omega arith))
    ∙ ap (λ (rest : List (List ℕ)). g a ∷ rest) (map_agree f g (a + 1) n (λ v low high. same v (omega arith) (omega arith)))

pub parents_map : (count : ℕ) (edges : List Edge) (raw : List (List ℕ)) → length raw ≡ count → ((p c : ℕ) → p < count → has (get_or raw p []) c ≡ list_any (is_edge p c) edges) → map (holders_of raw) (range_with_len 0 (length raw)) ≡ map (parents_among count edges) (range_with_len 0 count)
parents_map count edges raw len each =
    ap (λ (n : ℕ). map (holders_of raw) (range_with_len 0 n)) len
    ∙ map_agree (holders_of raw) (parents_among count edges) 0 count (λ v low high. parents_are count edges raw len each v)

pub children_map : (count : ℕ) (edges : List Edge) (parents : List (List ℕ)) → parents ≡ map (parents_among count edges) (range_with_len 0 count) → map (holders_of parents) (range_with_len 0 (length parents)) ≡ map (children_among count edges) (range_with_len 0 count)
children_map count edges parents is =
    let len : length parents ≡ count = ap (λ (ls : List (List ℕ)). length ls) is ∙ length-map-range_with_len (parents_among count edges) 0 count in
    ap (λ (n : ℕ). map (holders_of parents) (range_with_len 0 n)) len
    ∙ map_agree (holders_of parents) (children_among count edges) 0 count (λ v low high. children_are count edges parents is v (omega arith))

-- the lists of parents
pub lists_len : (count : ℕ) (edges : List Edge) (parents : List (List ℕ)) → parents ≡ map (parents_among count edges) (range_with_len 0 count) → length parents ≡ count
lists_len count edges parents is = ap (λ (ls : List (List ℕ)). length ls) is ∙ length-map-range_with_len (parents_among count edges) 0 count

pub parents_at : (count : ℕ) (edges : List Edge) (parents : List (List ℕ)) → parents ≡ map (parents_among count edges) (range_with_len 0 count) → (v : ℕ) → v < count → get_or parents v [] ≡ parents_among count edges v
parents_at count edges parents is v small = ap (λ (ls : List (List ℕ)). get_or ls v []) is ∙ get_or-map-range_with_len (parents_among count edges) 0 count v v [] small (omega arith)

pub parents_below : (count : ℕ) (edges : List Edge) (parents : List (List ℕ)) → parents ≡ map (parents_among count edges) (range_with_len 0 count) → AreBelow count parents
parents_below count edges parents is = λ v k low lt.
    let small : v < count = omega (arith, lists_len count edges parents is) in
    let at : get_or parents v [] ≡ parents_among count edges v = parents_at count edges parents is v small in
    let inside : k < length (parents_among count edges v) = subst (λ (ns : List ℕ). k < length ns) at lt in
    subst (λ (ns : List ℕ). get_or ns k 0 < count) (sym at) (All-filter (λ p. list_any (is_edge p v) edges) (λ m. m < count) (range_with_len 0 count) (range_below count) k 0 inside)

pub all_below : (count : ℕ) (edges : List Edge) (parents : List (List ℕ)) → parents ≡ map (parents_among count edges) (range_with_len 0 count) → AreBelow (length parents) parents
all_below count edges parents is = subst (λ (k : ℕ). AreBelow k parents) (sym (lists_len count edges parents is)) (parents_below count edges parents is)

pub parents_listed : (n count : ℕ) (seen edges : List Edge) (raw raw_seen parents : List (List ℕ)) → n ≡ count → seen ≡ edges → raw_seen ≡ raw → length raw ≡ n → ((p c : ℕ) → p < n → has (get_or raw p []) c ≡ list_any (is_edge p c) seen) → parents ≡ map (holders_of raw_seen) (range_with_len 0 (length raw_seen)) → parents ≡ map (parents_among count edges) (range_with_len 0 count)
parents_listed n count seen edges raw raw_seen parents same_count same_edges same_raw len each is =
    is ∙ ap (λ (ls : List (List ℕ)). map (holders_of ls) (range_with_len 0 (length ls))) same_raw ∙ parents_map n seen raw len each
    ∙ ap (λ (k : ℕ). map (parents_among k seen) (range_with_len 0 k)) same_count ∙ ap (λ (es : List Edge). map (parents_among count es) (range_with_len 0 count)) same_edges

pub children_listed : (dag : Dag) (parents seen children : List (List ℕ)) → parents ≡ all_parents_of dag → seen ≡ parents → children ≡ map (holders_of seen) (range_with_len 0 (length seen)) → children ≡ all_children_of dag
children_listed dag parents seen children are same is =
    is ∙ ap (λ (ls : List (List ℕ)). map (holders_of ls) (range_with_len 0 (length ls))) same ∙ children_map (length dag.nodes) dag.edges parents are

pub parents_len : (dag : Dag) (parents : List (List ℕ)) → parents ≡ all_parents_of dag → length parents ≡ length dag.nodes
parents_len dag parents is = lists_len (length dag.nodes) dag.edges parents is

pub children_len : (dag : Dag) (children : List (List ℕ)) → children ≡ all_children_of dag → length children ≡ length dag.nodes
children_len dag children is = ap (λ (ls : List (List ℕ)). length ls) is ∙ length-map-range_with_len (children_of dag) 0 (length dag.nodes)

pub parents_read : (dag : Dag) (parents : List (List ℕ)) (node : ℕ) (here : List ℕ) → node < length dag.nodes → parents ≡ all_parents_of dag → here ≡ get_or parents node here → here ≡ parents_of dag node
parents_read dag parents node here small is read =
    get_or_read parents node here (omega (arith, parents_len dag parents is)) read [] ∙ parents_at (length dag.nodes) dag.edges parents is node small

pub children_read : (dag : Dag) (children : List (List ℕ)) (node : ℕ) (here : List ℕ) → node < length dag.nodes → children ≡ all_children_of dag → here ≡ get_or children node here → here ≡ children_of dag node
children_read dag children node here small is read =
    get_or_read children node here (omega (arith, children_len dag children is)) read []
    ∙ ap (λ (ls : List (List ℕ)). get_or ls node []) is ∙ get_or-map-range_with_len (children_of dag) 0 (length dag.nodes) node node [] small (omega arith)

-- there are not many pairs
pub parents_few : (dag : Dag) (parents : List (List ℕ)) → parents ≡ all_parents_of dag → length dag.nodes ≤ 65536 → sum_by length parents ≤ 65536 * 65536
parents_few dag parents is few =
    let len : length parents ≡ length dag.nodes = parents_len dag parents is in
    let each : All (λ (ns : List ℕ). length ns ≤ 65536) parents = λ k d lt.
    let small : k < length dag.nodes = omega arith in
    let at : get_or parents k d ≡ parents_of dag k = get_or_default parents k d [] lt ∙ parents_at (length dag.nodes) dag.edges parents is k small in
    let count : length (parents_of dag k) ≡ count_by (λ p. list_any (is_edge p k) dag.edges) (range_with_len 0 (length dag.nodes)) = length-filter (λ p. list_any (is_edge p k) dag.edges) (range_with_len 0 (length dag.nodes)) in
    let most : count_by (λ p. list_any (is_edge p k) dag.edges) (range_with_len 0 (length dag.nodes)) ≤ length (range_with_len 0 (length dag.nodes)) = count_by-le-length (λ p. list_any (is_edge p k) dag.edges) (range_with_len 0 (length dag.nodes)) in
    let all : length (range_with_len 0 (length dag.nodes)) ≡ length dag.nodes = length-range_with_len 0 (length dag.nodes) in
    let here : length (get_or parents k d) ≡ length (parents_of dag k) = ap (λ (ns : List ℕ). length ns) at in
    omega (arith, count, most, all, here, few) in
    let sum : sum_by length parents ≤ length parents * 65536 = sum_by-le length 65536 parents each in
    omega (arith, sum, len, few)

-- what is no number of an ordinary node has neither parents nor children
no_child : (count : ℕ) (edges : List Edge) (p node : ℕ) → All (IsBelow count) edges → count ≤ node → list_any (is_edge p node) edges ≡ false
no_child count [] p node within past = refl
no_child count (e ∷ es) p node within past =
    let below = (All-head (IsBelow count) e es within).child in
    let not_here : (e.child == node) ≡ false = ne_eqb e.child node (λ same. absurd (omega (arith, same, below, past))) in
    or_from _ _ (and_right (e.parent == p) (e.child == node) not_here) (no_child count es p node (All-tail (IsBelow count) e es within) past)

no_parent : (count : ℕ) (edges : List Edge) (node c : ℕ) → All (IsBelow count) edges → count ≤ node → list_any (is_edge node c) edges ≡ false
no_parent count [] node c within past = refl
no_parent count (e ∷ es) node c within past =
    let below = (All-head (IsBelow count) e es within).parent in
    let not_here : (e.parent == node) ≡ false = ne_eqb e.parent node (λ same. absurd (omega (arith, same, below, past))) in
    or_from _ _ (and_left (e.parent == node) (e.child == c) not_here) (no_parent count es node c (All-tail (IsBelow count) e es within) past)

none_kept : (p : ℕ → Bool) (xs : List ℕ) → ((x : ℕ) → p x ≡ false) → filter p xs ≡ []
none_kept p [] none = refl
none_kept p (x ∷ xs) none = rw (none x) (none_kept p xs none)

pub no_parents : (dag : Dag) (node : ℕ) → All (IsBelow (length dag.nodes)) dag.edges → length dag.nodes ≤ node → parents_of dag node ≡ []
no_parents dag node within past = none_kept _ (range_with_len 0 (length dag.nodes)) (λ p. no_child (length dag.nodes) dag.edges p node within past)

pub no_children : (dag : Dag) (node : ℕ) → All (IsBelow (length dag.nodes)) dag.edges → length dag.nodes ≤ node → children_of dag node ≡ []
no_children dag node within past = none_kept _ (range_with_len 0 (length dag.nodes)) (λ c. no_parent (length dag.nodes) dag.edges node c within past)
