-- The nodes that run again are those that the search reaches.
use Rattle.std.proofs.Common.{◌≡◌, ℕ, zero, suc, ◌<◌, Bool, true, false, List, [], ◌∷◌, length, map, filter, get_or, if◌then◌else◌, refl, subst, sym, ap, ◌∙◌, arith}
use Rattle.std.specs.Prelude.{nat_lt}
use Rattle.std.specs.List.{All, Contains, list_any, range_with_len}
use Rattle.std.proofs.lemmas.Bool.{ltb-true, lt-ltb, le-ltb}
use Rattle.std.proofs.lemmas.List.Elements.{All-filter, All-contains, All-contains_itself, All-nil, filter_passes}
use Rattle.dag_graph.specs.Graph.{children_of, is_edge}
use Rattle.run_plan.specs.Plan.{Plan, count_of}
use Rattle.failure_report.specs.Reaching.{next_in, ListsAreBelow, Reaches, beside, behind, AreReached}
use Rattle.failure_report.proofs.Following.{reach-low, lists-many, lists-below, to-next, from-next}
use Rattle.failure_report.proofs.Holding.{range-below}
use Rattle.redo.specs.Redone.{RunsAgain, is_named, comes_after, AreAgain, ordinary_ones, next_again}

-- what a filter keeps
more-there : (b : Bool) (y x : ℕ) (us : List ℕ) → Contains us x → Contains (if b then y ∷ us else us) x
more-there true y x us there = let lt = there.1 in (suc there.0, omega (arith, lt), there.2)
more-there false y x us there = there

kept-at : (p : ℕ → Bool) (xs : List ℕ) (x k : ℕ) → k < length xs → get_or xs k x ≡ x → p x ≡ true → Contains (filter p xs) x
kept-at p [] x k less same holds = let no : ⊥ = omega arith in absurd no
kept-at p (y ∷ ys) x zero less same holds =
    subst (λ (b : Bool). Contains (if b then y ∷ filter p ys else filter p ys) x) (sym (ap p same ∙ holds)) (0, omega arith, same)
kept-at p (y ∷ ys) x (suc k) less same holds = more-there (p y) y x (filter p ys) (kept-at p ys x k (omega arith) same holds)

kept-there : (p : ℕ → Bool) (xs : List ℕ) (x : ℕ) → Contains xs x → p x ≡ true → Contains (filter p xs) x
kept-there p xs x there holds = kept-at p xs x there.0 there.1 there.2 holds

module _ (plan : Plan) (counted : count_of plan ≡ length plan.graph.dag.nodes) (only : Bool) (named : List ℕ) where
  abbrev next : ℕ → List ℕ
  next = next_again plan only named

  abbrev is_low : ℕ → Bool
  is_low node = nat_lt node (count_of plan)

  -- the next ones are ordinary nodes
  children-low : (p : ℕ) → All (λ c. c < count_of plan) (children_of plan.graph.dag p)
  children-low p =
      let dag = plan.graph.dag in
      subst (λ (n : ℕ). All (λ c. c < n) (children_of dag p)) (sym counted)
      (All-filter (λ c. list_any (is_edge p c) dag.edges) (λ c. c < length dag.nodes) (range_with_len 0 (length dag.nodes)) (range-below 0 (length dag.nodes) (length dag.nodes) (omega arith)))

  ordinary-low : All (λ c. c < count_of plan) (ordinary_ones plan named)
  ordinary-low i e lt = ltb-true _ _ (filter_passes is_low named i e lt)

  low-by : (b o : Bool) (p : ℕ) → All (λ c. c < count_of plan) (if b then (if o then [] else children_of plan.graph.dag p) else ordinary_ones plan named)
  low-by true true p = All-nil (λ c. c < count_of plan)
  low-by true false p = children-low p
  low-by false o p = ordinary-low

  low : (p : ℕ) → All (λ v. v < count_of plan) (next p)
  low p = low-by (is_low p) only p

  low-more : (p : ℕ) → All (λ v. v < suc (count_of plan)) (next p)
  low-more p i e lt = let h = low p i e lt in omega (arith, h)

  at-node : (node : ℕ) → node < count_of plan → next node ≡ (if only then [] else children_of plan.graph.dag node)
  at-node node less = ap (λ (b : Bool). if b then (if only then [] else children_of plan.graph.dag node) else ordinary_ones plan named) (lt-ltb node (count_of plan) less)

  at-end : next (count_of plan) ≡ ordinary_ones plan named
  at-end = ap (λ (b : Bool). if b then (if only then [] else children_of plan.graph.dag (count_of plan)) else ordinary_ones plan named) (le-ltb (count_of plan) (count_of plan) (omega arith))

  after : (o : Bool) → only ≡ o → (p v : ℕ) → RunsAgain plan only named p → Contains (if o then [] else children_of plan.graph.dag p) v → RunsAgain plan only named v
  after true is p v runs there = let lt = there.1 in let no : ⊥ = omega (arith, lt) in absurd no
  after false is p v runs there = comes_after is runs there

  to-runs : (v : ℕ) → Reaches next (count_of plan) v → RunsAgain plan only named v
  to-runs v (beside there) =
      let inside = subst (λ (xs : List ℕ). Contains xs v) at-end there in
      is_named (All-contains (λ c. c < count_of plan) (ordinary_ones plan named) v ordinary-low inside)
      (All-contains (Contains named) (ordinary_ones plan named) v (All-filter is_low (Contains named) named (All-contains_itself named)) inside)
  to-runs v (behind {between = p} is there) =
      after only refl p v (to-runs p is) (subst (λ (xs : List ℕ). Contains xs v) (at-node p (reach-low next (count_of plan) low (count_of plan) p is)) there)

  from-runs : (v : ℕ) → RunsAgain plan only named v → Reaches next (count_of plan) v
  from-runs v (is_named less there) = beside (subst (λ (xs : List ℕ). Contains xs v) (sym at-end) (kept-there is_low named v there (lt-ltb v (count_of plan) less)))
  from-runs v (comes_after {between = p} every is there) =
      let before = from-runs p is in
      let same = at-node p (reach-low next (count_of plan) low (count_of plan) p before) ∙ ap (λ (o : Bool). if o then [] else children_of plan.graph.dag p) every in
      behind before (subst (λ (xs : List ℕ). Contains xs v) (sym same) there)

  module _ (lists : List (List ℕ)) (are : lists ≡ map (next_again plan only named) (range_with_len 0 (suc (count_of plan)))) where
    pub again-many : length lists ≡ suc (count_of plan)
    again-many = lists-many next (suc (count_of plan)) low-more lists are

    pub again-below : ListsAreBelow (length lists) lists
    again-below = lists-below next (suc (count_of plan)) low-more lists are

    pub again-are : (again : List Bool) → AreReached (next_in lists) (count_of plan) again → AreAgain plan only named again
    again-are again are-reached v = (
      (λ met. to-runs v (to-next next (suc (count_of plan)) low-more lists are (count_of plan) (omega arith) v ((are-reached v).0 met))),
      (λ runs. (are-reached v).1 (from-next next (suc (count_of plan)) low-more lists are (count_of plan) (omega arith) v (from-runs v runs))),
    )
