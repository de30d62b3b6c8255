-- Cycles in lists of nodes.
use Rattle.std.proofs.Common.{◌≡◌, ℕ, zero, suc, ◌+◌, ◌-◌, ◌<◌, ◌≤◌, ◌++◌, List, [], ◌∷◌, length, take, drop, slice_index, sym, ap, ◌∙◌, subst, ⊎_elim, arith}
use Rattle.std.specs.Prelude.{reverse}
use Rattle.std.proofs.lemmas.Bool.{cases_lt}
use Rattle.std.proofs.lemmas.Grind.{common_steps}
use Rattle.std.proofs.lemmas.List.{append-nil, reverse-append, take-append-drop, drop_more, get_or-drop, length-drop, length-reverse, get_or-reverse}
use Rattle.std.proofs.lemmas.List.Elements.{All-append, All-take, All-drop, All-cons, All-nil, All-contains}
use Rattle.std.specs.List.{All}
use Rattle.splices_flat.specs.declared.flat.Edge.{Edge}
use Rattle.splices_flat.specs.Dag.{IsBelow}
use Rattle.dag_graph.specs.Graph.{IsParent, Leads, IsCycle, AreDistinct, rank_in}
use Rattle.dag_graph.specs.Cycles.{IsCycleOf, IsClosedBy}
use Rattle.dag_graph.proofs.Ranks.{rank_at}

join : (edges : List Edge) (x : ℕ) (xs : List ℕ) (y : ℕ) (ys : List ℕ) (end : ℕ) → Leads edges x xs y → Leads edges y ys end → Leads edges x (xs ++ y ∷ ys) end
join edges x [] y ys end first then = (first, then)
join edges x (z ∷ zs) y ys end (is, rest) then = (is, join edges z zs y ys end rest then)

split : (edges : List Edge) (x : ℕ) (xs : List ℕ) (y : ℕ) (ys : List ℕ) (end : ℕ) → Leads edges x (xs ++ y ∷ ys) end → Leads edges x xs y × Leads edges y ys end
split edges x [] y ys end (is, rest) = (is, rest)
split edges x (z ∷ zs) y ys end (is, rest) = let both = split edges z zs y ys end rest in ((is, both.0), both.1)

-- a round goes round from each of its nodes
turn : (edges : List Edge) (front : List ℕ) (y : ℕ) (back : List ℕ) → IsCycleOf edges (front ++ y ∷ back) → IsCycleOf edges (y ∷ back ++ front)
turn edges [] y back is = subst (λ (xs : List ℕ). Leads edges y xs y) (sym (append-nil back)) is
turn edges (x ∷ xs) y back is = let both = split edges x xs y back x is in join edges y back x xs y both.1 both.0

-- Nodes that are apart stay so from a place on, backwards, and begun at another place.
dropped_apart : (xs : List ℕ) (n : ℕ) → AreDistinct xs → AreDistinct (drop n xs)
dropped_apart xs n apart = λ i j less below same.
    let len = length-drop n xs in
    apart (n + i) (n + j) (omega arith) (omega (arith, len, below)) (sym (get_or-drop n xs i 0) ∙ same ∙ get_or-drop n xs j 0)

reversed_apart : (xs : List ℕ) → AreDistinct xs → AreDistinct (reverse xs)
reversed_apart xs apart = λ i j less below same.
    let len = length-reverse xs in
    let low : j < length xs = omega (arith, len, below) in
    apart (length xs - 1 - j) (length xs - 1 - i) (omega (arith, less, low)) (omega (arith, less, low))
    (sym (get_or-reverse xs j 0 low) ∙ sym same ∙ get_or-reverse xs i 0 (omega (arith, less, low)))

begun_apart : (r : List ℕ) (m : ℕ) → m < length r → AreDistinct r → AreDistinct (drop m r ++ take m r)
begun_apart r m lt apart = λ i j less below same.
    let n : ℕ = length r - m in
    let whole : length (drop m r ++ take m r) ≡ length r = grind (arith, common_steps) in
    let at_front : (k : ℕ) → k < length r - m → slice_index (drop m r ++ take m r) k ≡ slice_index r (m + k) = λ k low. grind (arith, common_steps) in
    let at_back : (k : ℕ) → length r - m ≤ k → k < length r → slice_index (drop m r ++ take m r) k ≡ slice_index r (k - (length r - m)) = λ k high low. grind (arith, common_steps) in
    ⊎_elim
    (λ (front : j < length r - m). apart (m + i) (m + j) (omega arith) (omega arith)
    (sym (at_front i (omega arith)) ∙ same ∙ at_front j front))
    (λ (back : length r - m ≤ j). ⊎_elim
    (λ (front : i < length r - m). apart (j - (length r - m)) (m + i) (omega (arith, whole, below)) (omega arith)
    (sym (at_back j back (omega (arith, whole, below))) ∙ sym same ∙ at_front i front))
    (λ (behind : length r - m ≤ i). apart (i - (length r - m)) (j - (length r - m)) (omega arith) (omega (arith, whole, below))
    (sym (at_back i behind (omega (arith, whole, below, less))) ∙ same ∙ at_back j back (omega (arith, whole, below))))
    (cases_lt i (length r - m)))
    (cases_lt j (length r - m))

pub begun_at : (edges : List Edge) (r : List ℕ) (m : ℕ) → m < length r → IsCycleOf edges r → All (λ z. slice_index r m ≤ z) r → AreDistinct r → IsCycle edges (drop m r ++ take m r)
begun_at edges r m lt is least apart =
    let y : ℕ = slice_index r m in
    let back : drop m r ≡ slice_index r m ∷ drop (m + 1) r = drop_more r m 0 lt in
    let whole : r ≡ take m r ++ (slice_index r m ∷ drop (m + 1) r) = sym (take-append-drop m r) ∙ ap (λ (xs : List ℕ). take m r ++ xs) back in
    let round : IsCycleOf edges (slice_index r m ∷ drop (m + 1) r ++ take m r) = turn edges (take m r) (slice_index r m) (drop (m + 1) r) (subst (IsCycleOf edges) whole is) in
    let low : All (λ z. slice_index r m ≤ z) (drop (m + 1) r ++ take m r) = All-append (λ z. slice_index r m ≤ z) (drop (m + 1) r) (take m r) (All-drop (λ z. slice_index r m ≤ z) (m + 1) r least) (All-take (λ z. slice_index r m ≤ z) m r least) in
    let once : AreDistinct (slice_index r m ∷ drop (m + 1) r ++ take m r) = subst (λ (xs : List ℕ). AreDistinct (xs ++ take m r)) back (begun_apart r m lt apart) in
    subst (λ (xs : List ℕ). IsCycle edges (xs ++ take m r)) (sym back) (round, low, once)

-- each of the list is a parent of the next, and the last is one of `end`
abbrev pub LeadsTo : List Edge → List ℕ → ℕ → Type 0
LeadsTo edges [] end = Unit {0}
LeadsTo edges (x ∷ xs) end = Leads edges x xs end

further : (edges : List Edge) (xs : List ℕ) (y end : ℕ) → LeadsTo edges xs y → IsParent edges y end → LeadsTo edges (xs ++ y ∷ []) end
further edges [] y end is last = last
further edges (x ∷ xs) y end is last = join edges x xs y [] end is last

-- a path upward, from its end on
downward : (edges : List Edge) (path : List ℕ) (end : ℕ) → ((i : ℕ) → i + 1 < length path → IsParent edges (slice_index path (i + 1)) (slice_index path i)) → (0 < length path → IsParent edges (slice_index path 0) end) → LeadsTo edges (reverse path) end
downward edges [] end chain first = tt
downward edges (x ∷ xs) end chain first =
    let rest : LeadsTo edges (reverse xs) x = downward edges xs x
    (λ i lt.
    let e : suc i ≡ i + 1 = omega arith in
    let f : suc (i + 1) ≡ i + 1 + 1 = omega arith in
    let step = chain (i + 1) (omega arith) in
    subst (λ (k : ℕ). IsParent edges (slice_index xs (i + 1)) (slice_index (x ∷ xs) k)) (sym e) (subst (λ (k : ℕ). IsParent edges (slice_index (x ∷ xs) k) (slice_index (x ∷ xs) (i + 1))) (sym f) step))
    (λ some. let e : suc zero ≡ 0 + 1 = omega arith in subst (λ (k : ℕ). IsParent edges (slice_index (x ∷ xs) k) x) (sym e) (chain 0 (omega arith))) in
    subst (λ (ys : List ℕ). LeadsTo edges ys end) (sym (reverse-append (x ∷ []) xs)) (further edges (reverse xs) x end rest (first (omega arith)))

goes_round : (edges : List Edge) (r : List ℕ) (end : ℕ) → 0 < length r → slice_index r 0 ≡ end → LeadsTo edges r end → IsCycleOf edges r
goes_round edges [] end some is leads = absurd (omega arith)
goes_round edges (x ∷ xs) end some is leads = subst (λ (y : ℕ). Leads edges x xs y) (sym is) leads

-- the part of a path on which it comes back, from its end on
pub round_of : (edges : List Edge) (path : List ℕ) (parent : ℕ) → IsClosedBy edges path parent → IsCycleOf edges (reverse (drop (rank_in path parent) path))
round_of edges path parent is =
    let j : ℕ = rank_in path parent in
    let part : List ℕ = drop (rank_in path parent) path in
    let lt = is.there in
    let len : length (drop (rank_in path parent) path) ≡ length path - rank_in path parent = length-drop (rank_in path parent) path in
    let some : 0 < length (drop (rank_in path parent) path) = omega (arith, len, lt) in
    let at = λ (i : ℕ). get_or-drop (rank_in path parent) path i 0 in
    let head : slice_index (drop (rank_in path parent) path) 0 ≡ parent = at 0 ∙ ap (λ (k : ℕ). slice_index path k) (let e : rank_in path parent + 0 ≡ rank_in path parent = omega arith in e) ∙ rank_at path parent lt in
    let end : slice_index (drop (rank_in path parent) path) (length (drop (rank_in path parent) path) - 1) ≡ slice_index path (length path - 1) =
    at (length (drop (rank_in path parent) path) - 1) ∙ ap (λ (k : ℕ). slice_index path k) (let e : rank_in path parent + (length (drop (rank_in path parent) path) - 1) ≡ length path - 1 = omega (arith, len, lt) in e) in
    let first : slice_index (reverse (drop (rank_in path parent) path)) 0 ≡ slice_index path (length path - 1) =
    get_or-reverse (drop (rank_in path parent) path) 0 0 some ∙ ap (λ (k : ℕ). slice_index (drop (rank_in path parent) path) k) (let e : length (drop (rank_in path parent) path) - 1 - 0 ≡ length (drop (rank_in path parent) path) - 1 = omega arith in e) ∙ end in
    let leads : LeadsTo edges (reverse (drop (rank_in path parent) path)) (slice_index path (length path - 1)) = downward edges (drop (rank_in path parent) path) (slice_index path (length path - 1))
    (λ i small.
    let low : rank_in path parent + i + 1 < length path = omega (arith, len) in
    let e : rank_in path parent + (i + 1) ≡ rank_in path parent + i + 1 = omega arith in
    subst (λ (y : ℕ). IsParent edges y (slice_index (drop (rank_in path parent) path) i)) (sym (at (i + 1) ∙ ap (λ (k : ℕ). slice_index path k) e)) (subst (λ (y : ℕ). IsParent edges (slice_index path (rank_in path parent + i + 1)) y) (sym (at i)) (is.chain (rank_in path parent + i) low)))
    (λ any. subst (λ (y : ℕ). IsParent edges y (slice_index path (length path - 1))) (sym head) is.last) in
    goes_round edges (reverse (drop (rank_in path parent) path)) (slice_index path (length path - 1)) (omega (arith, some, length-reverse (drop (rank_in path parent) path))) first leads

-- the nodes of a cycle are below the count
leads_below : (count : ℕ) (edges : List Edge) (x : ℕ) (xs : List ℕ) (end : ℕ) → All (IsBelow count) edges → Leads edges x xs end → All (λ v. v < count) (x ∷ xs)
leads_below count edges x [] end within is =
    All-cons (λ v. v < count) x [] (All-contains (IsBelow count) edges (record { parent = x; child = end }) within is).parent (All-nil (λ v. v < count))
leads_below count edges x (y ∷ ys) end within (is, rest) =
    All-cons (λ v. v < count) x (y ∷ ys) (All-contains (IsBelow count) edges (record { parent = x; child = y }) within is).parent (leads_below count edges y ys end within rest)

pub cycle_below : (count : ℕ) (edges : List Edge) (nodes : List ℕ) → All (IsBelow count) edges → IsCycle edges nodes → All (λ v. v < count) nodes
cycle_below count edges [] within is = absurd is
cycle_below count edges (x ∷ xs) within (leads, least, apart) = leads_below count edges x xs x within leads

pub cycle_begun : (edges : List Edge) (path : List ℕ) (parent place m : ℕ) (r : List ℕ) → place ≡ rank_in path parent → r ≡ reverse (drop place path) → m < length r → All (λ z. slice_index r m ≤ z) r → IsClosedBy edges path parent → IsCycle edges (drop m r ++ take m r)
cycle_begun edges path parent place m r at is lt least closed =
    begun_at edges r m lt (subst (IsCycleOf edges) (sym (is ∙ ap (λ (k : ℕ). reverse (drop k path)) at)) (round_of edges path parent closed)) least
    (subst AreDistinct (sym is) (reversed_apart (drop place path) (dropped_apart path place closed.apart)))
