-- Counts of parents that are not done.
use Rattle.std.proofs.Common.{◌≡◌, ℕ, zero, suc, ◌+◌, ◌<◌, ◌≤◌, Bool, true, false, ◌&&◌, ◌==◌, List, [], ◌∷◌, length, filter, drop, get_or, refl, sym, ap, ◌∙◌, arith, eqb-true, if◌then◌else◌}
use Rattle.std.specs.Prelude.{nat_lt}
use Rattle.std.specs.List.{list_all, range_with_len}
use Rattle.std.proofs.lemmas.Bool.{eqb-false, and_parts, ltb-true, ltb-false, false_from_ne_true}
use Rattle.std.specs.List.{list_any}
use Rattle.std.proofs.lemmas.List.{at_drop_more}
use Rattle.dag_graph.specs.Graph.{is_edge, children_of}
use Rattle.run_plan.specs.Plan.{Plan, node_at, count_of}
use Rattle.run_plan.specs.Planned.{IsPlanned}
use Rattle.run_plan.proofs.PlanFacts.{planned-count, parents-are}
use Rattle.sched_core.specs.States.{undone_in}
use Rattle.sched_core.specs.Turns.{times}

pub zero-plus : (n : ℕ) → 0 + n ≡ n
zero-plus n = omega arith

pub undone-few : (done : ℕ → Bool) (xs : List ℕ) → undone_in done xs ≤ length xs
undone-few done [] = omega arith
undone-few done (x ∷ xs) = go (done x) (undone-few done xs)
  where
    go : (b : Bool) → undone_in done xs ≤ length xs → (if b then 0 else 1) + undone_in done xs ≤ length (x ∷ xs)
    go true h = omega (arith, h)
    go false h = omega (arith, h)

-- none is left just where all are done
pub none-left : (done : ℕ → Bool) (xs : List ℕ) → (undone_in done xs == 0) ≡ list_all done xs
none-left done [] = refl
none-left done (x ∷ xs) = go (done x) (none-left done xs)
  where
    go : (b : Bool) → (undone_in done xs == 0) ≡ list_all done xs → (((if b then 0 else 1) + undone_in done xs) == 0) ≡ (b && list_all done xs)
    go true h = ap (λ n. n == 0) (zero-plus (undone_in done xs)) ∙ h
    go false h = false_from_ne_true _ (λ t. let e = eqb-true (1 + undone_in done xs) 0 t in omega (arith, e))

-- the count depends on the nodes that stand there
pub undone-same : (f g : ℕ → Bool) (n : ℕ) → ((x : ℕ) → x < n → f x ≡ g x) → (xs : List ℕ) → list_all (λ x. nat_lt x n) xs ≡ true → undone_in f xs ≡ undone_in g xs
undone-same f g n same [] low = refl
undone-same f g n same (x ∷ xs) low =
    let l = and_parts _ _ low in
    λ j. (if same x (ltb-true x n l.0) j then 0 else 1) + undone-same f g n same xs l.1 j

-- one node is done that was not: each time that it is there counts one less
pub undone-less : (f g : ℕ → Bool) (k : ℕ) → ((m : ℕ) → (k == m) ≡ false → g m ≡ f m) → f k ≡ false → g k ≡ true → (xs : List ℕ) → undone_in g xs + times k xs ≡ undone_in f xs
undone-less f g k same was now [] = refl
undone-less f g k same was now (x ∷ xs) = go (k == x) refl (undone-less f g k same was now xs)
  where
    go : (b : Bool) → (k == x) ≡ b → undone_in g xs + times k xs ≡ undone_in f xs
        → ((if g x then 0 else 1) + undone_in g xs) + ((if b then 1 else 0) + times k xs) ≡ (if f x then 0 else 1) + undone_in f xs
    go true e h =
        let is : k ≡ x = eqb-true k x e in
        (λ j. ((if (sym (ap g is) ∙ now) j then 0 else 1) + undone_in g xs) + (1 + times k xs))
        ∙ (let q : (0 + undone_in g xs) + (1 + times k xs) ≡ 1 + undone_in f xs = omega (arith, h) in q)
        ∙ (λ j. (if (sym was ∙ ap f is) j then 0 else 1) + undone_in f xs)
    go false e h =
        (λ j. ((if same x e j then 0 else 1) + undone_in g xs) + (0 + times k xs))
        ∙ step (f x)
      where
        step : (b : Bool) → ((if b then 0 else 1) + undone_in g xs) + (0 + times k xs) ≡ (if b then 0 else 1) + undone_in f xs
        step true = let q : (0 + undone_in g xs) + (0 + times k xs) ≡ 0 + undone_in f xs = omega (arith, h) in q
        step false = let q : (1 + undone_in g xs) + (0 + times k xs) ≡ 1 + undone_in f xs = omega (arith, h) in q

-- a number of a range is once among those that pass a test, if it does
times-range : (q : ℕ → Bool) (x from n : ℕ) → (x < from) → times x (filter q (range_with_len from n)) ≡ 0
times-range q x from zero lt = refl
times-range q x from (suc n) lt = go (q from) (times-range q x (from + 1) n (omega (arith, lt)))
  where
    differs : (x == from) ≡ false
    differs = false_from_ne_true _ (λ t. let e = eqb-true x from t in omega (arith, e, lt))

    go : (b : Bool) → times x (filter q (range_with_len (from + 1) n)) ≡ 0 → times x (if b then from ∷ filter q (range_with_len (from + 1) n) else filter q (range_with_len (from + 1) n)) ≡ 0
    go true rest = (λ j. (if differs j then 1 else 0) + times x (filter q (range_with_len (from + 1) n))) ∙ zero-plus (times x (filter q (range_with_len (from + 1) n))) ∙ rest
    go false rest = rest

pub times-once : (q : ℕ → Bool) (x from n : ℕ) → from ≤ x → x < from + n → times x (filter q (range_with_len from n)) ≡ (if q x then 1 else 0)
times-once q x from zero le lt = absurd (omega (arith, le, lt))
times-once q x from (suc n) le lt = go (x == from) refl (λ above. times-once q x (from + 1) n above (omega (arith, lt)))
  where
    rest : List ℕ
    rest = filter q (range_with_len (from + 1) n)

    put : (c : Bool) → (x == from) ≡ c → (b : Bool) → times x (if b then from ∷ rest else rest) ≡ (if b then (if c then 1 else 0) else 0) + times x rest
    put c e true = λ j. (if e j then 1 else 0) + times x rest
    put c e false = sym (zero-plus (times x rest))

    above : (x == from) ≡ false → from + 1 ≤ x
    above e = gap (nat_lt from x) refl
      where
        gap : (t : Bool) → nat_lt from x ≡ t → from + 1 ≤ x
        gap true t = let l = ltb-true from x t in omega (arith, l)
        gap false f = let g = ltb-false from x f in absurd (eqb-false x from e (omega (arith, g, le)))

    go : (b : Bool) → (x == from) ≡ b → (from + 1 ≤ x → times x rest ≡ (if q x then 1 else 0)) → times x (if q from then from ∷ rest else rest) ≡ (if q x then 1 else 0)
    go true e later =
        let is : x ≡ from = eqb-true x from e in
        let none : times x rest ≡ 0 = times-range q x (from + 1) n (omega (arith, is)) in
        put true e (q from) ∙ at (q from) none ∙ (λ j. if q (sym is j) then 1 else 0)
      where
        at : (c : Bool) → times x rest ≡ 0 → (if c then (if true then 1 else 0) else 0) + times x rest ≡ (if c then 1 else 0)
        at true none = let r : 1 + times x rest ≡ 1 = omega (arith, none) in r
        at false none = zero-plus (times x rest) ∙ none
    go false e later = put false e (q from) ∙ at (q from) ∙ later (above e)
      where
        at : (c : Bool) → (if c then (if false then 1 else 0) else 0) + times x rest ≡ times x rest
        at true = zero-plus (times x rest)
        at false = zero-plus (times x rest)

-- a node counted leaves room
pub undone-bound : (done : ℕ → Bool) (xs : List ℕ) (i count : ℕ) → count + undone_in done (drop i xs) ≡ undone_in done xs → i < length xs → done (get_or xs i 0) ≡ false → count + 1 ≤ length xs
undone-bound done xs i count h lt e =
    let few = undone-few done xs in
    let one : undone_in done (drop i xs) ≡ 1 + undone_in done (drop (i + 1) xs) = at_drop_more (undone_in done) xs i 0 lt ∙ (λ j. (if e j then 0 else 1) + undone_in done (drop (i + 1) xs)) in
    omega (arith, h, few, one)

-- a node has no more parents than there are nodes
filter-short : (q : ℕ → Bool) (from n : ℕ) → length (filter q (range_with_len from n)) ≤ n
filter-short q from zero = omega arith
filter-short q from (suc n) = go (q from) (filter-short q (from + 1) n)
  where
    go : (b : Bool) → length (filter q (range_with_len (from + 1) n)) ≤ n
        → length (if b then from ∷ filter q (range_with_len (from + 1) n) else filter q (range_with_len (from + 1) n)) ≤ suc n
    go true h = omega (arith, h)
    go false h = omega (arith, h)

pub parents-few : (plan : Plan) → IsPlanned plan → (node : ℕ) → node < count_of plan → length (node_at plan node).parents ≤ count_of plan
parents-few plan planned node lt =
    let few = filter-short (λ p. list_any (is_edge p node) plan.graph.dag.edges) 0 (length plan.graph.dag.nodes) in
    let is = ap (λ (l : List ℕ). length l) (parents-are plan planned node lt) in
    let n = planned-count plan planned in omega (arith, few, is, n)

-- a child is so often among the children of its parent as that is among its parents
pub times-turned : (plan : Plan) → IsPlanned plan → (parent child : ℕ) → parent < count_of plan → child < count_of plan
    → times child (children_of plan.graph.dag parent) ≡ times parent (node_at plan child).parents
times-turned plan planned parent child lt lt' =
    let n = planned-count plan planned in
    times-once (λ c. list_any (is_edge parent c) plan.graph.dag.edges) child 0 (length plan.graph.dag.nodes) (omega arith) (omega (arith, lt', n))
    ∙ sym (times-once (λ p. list_any (is_edge p child) plan.graph.dag.edges) parent 0 (length plan.graph.dag.nodes) (omega arith) (omega (arith, lt, n)))
    ∙ ap (times parent) (sym (parents-are plan planned child lt'))

-- and no other number is among them
pub times-above : (q : ℕ → Bool) (x from n : ℕ) → from + n ≤ x → times x (filter q (range_with_len from n)) ≡ 0
times-above q x from zero le = refl
times-above q x from (suc n) le = go (q from) (times-above q x (from + 1) n (omega (arith, le)))
  where
    differs : (x == from) ≡ false
    differs = false_from_ne_true _ (λ t. let e = eqb-true x from t in omega (arith, e, le))

    go : (b : Bool) → times x (filter q (range_with_len (from + 1) n)) ≡ 0 → times x (if b then from ∷ filter q (range_with_len (from + 1) n) else filter q (range_with_len (from + 1) n)) ≡ 0
    go true rest = (λ j. (if differs j then 1 else 0) + times x (filter q (range_with_len (from + 1) n))) ∙ zero-plus (times x (filter q (range_with_len (from + 1) n))) ∙ rest
    go false rest = rest

-- one counted more
pub undone-step : (done : ℕ → Bool) (x : ℕ) (xs : List ℕ) (count total : ℕ) → count + undone_in done (x ∷ xs) ≡ total → done x ≡ false → (count + 1) + undone_in done xs ≡ total
undone-step done x xs count total h e =
    let one : undone_in done (x ∷ xs) ≡ 1 + undone_in done xs = λ j. (if e j then 0 else 1) + undone_in done xs in omega (arith, h, one)
