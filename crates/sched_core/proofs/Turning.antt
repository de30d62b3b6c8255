-- What a record makes of the nodes that it touches, and of their counters.
use Rattle.std.proofs.Common.{◌≡◌, ℕ, zero, suc, ◌+◌, ◌<◌, ◌≤◌, Bool, true, false, not, ◌&&◌, ◌||◌, ◌==◌, List, [], ◌∷◌, length, length-set, map, drop, get_or, eq-eqb, unwrap_or, is_none, slice_set, refl, sym, ap, ◌∙◌, subst, arith, eqb-true, lt-ltb, if◌then◌else◌}
use Rattle.std.specs.Prelude.{nat_lt, slice_get, is_some}
use Rattle.std.proofs.lemmas.Bool.{eqb-false, and_parts, ltb-true, ltb-false, false_from_ne_true, false≢true}
use Rattle.std.proofs.lemmas.List.{at_drop_more, length-map}
use Rattle.std.proofs.lemmas.List.Elements.{All-nil, All-cons, All-filter, All-contains, Contains-get_or}
use Rattle.dag_graph.specs.Graph.{is_edge, children_of}
use Rattle.std.specs.List.{All, list_any, range_with_len}
use Rattle.node_machine.specs.NodeProgress.{NodeProgress}
use Rattle.node_machine.specs.NodeRun.{started, stopped}
use Rattle.run_plan.specs.Plan.{Plan, node_at, count_of}
use Rattle.run_plan.specs.Planned.{IsPlanned}
use Rattle.run_plan.proofs.PlanFacts.{planned-count, parents-below}
use Rattle.sched_core.specs.Core.{run_at, aborted_in, has_abort_at}
use Rattle.sched_core.specs.Bound.{node_total}
use Rattle.sched_core.specs.Run.{setting_is_met}
use Rattle.sched_core.specs.States.{AreLeft, left_at, done_at, undone_in}
use Rattle.sched_core.specs.Turns.{times}
use Rattle.ready_queue.proofs.Edits.{by_lt}
use Rattle.sched_core.proofs.Sweeps.{run_at-same, run_at-other, run_at-stopped}
use Rattle.sched_core.proofs.Settling.{at-same, at-other, set-own}
use Rattle.sched_core.proofs.Shares.{by_same}
use Rattle.sched_core.proofs.Taking.{one-abort}
use Rattle.sched_core.proofs.Undone.{undone-same, undone-less, times-turned, times-above}

-- a test of numbers, one further
lt-more : (k i : ℕ) → (i ≡ k → ⊥) → nat_lt k (i + 1) ≡ nat_lt k i
lt-more k i ne = go (nat_lt k i) refl
  where
    go : (b : Bool) → nat_lt k i ≡ b → nat_lt k (i + 1) ≡ nat_lt k i
    go true t = lt-ltb k (i + 1) (let l = ltb-true k i t in omega (arith, l)) ∙ sym t
    go false f = false_from_ne_true _ (λ t. let l = ltb-true k (i + 1) t in let g = ltb-false k i f in ne (omega (arith, l, g))) ∙ sym f

own-not : (k : ℕ) → nat_lt k k ≡ false
own-not k = false_from_ne_true _ (λ t. let l = ltb-true k k t in omega (arith, l))

abbrev pub stopped_below : List NodeProgress → ℕ → ℕ → NodeProgress
stopped_below init i k = if nat_lt k i then stopped (run_at init k) else run_at init k

-- one node more is stopped
pub stop-more : (init now : List NodeProgress) (i : ℕ) → i < length now → ((k : ℕ) → run_at now k ≡ stopped_below init i k)
    → (k : ℕ) → run_at (slice_set now i (stopped (run_at now i))) k ≡ stopped_below init (i + 1) k
stop-more init now i inside before k = by_same i k
    (λ same. subst (λ m. run_at (slice_set now i (stopped (run_at now i))) m ≡ stopped_below init (i + 1) m) same
    (run_at-same now i (stopped (run_at now i)) inside
    ∙ ap stopped (before i ∙ (λ j. if own-not i j then stopped (run_at init i) else run_at init i))
    ∙ (λ j. if sym (lt-ltb i (i + 1) (omega arith)) j then stopped (run_at init i) else run_at init i)))
    (λ ne. run_at-other now i (stopped (run_at now i)) k ne ∙ before k ∙ (λ j. if sym (lt-more k i ne) j then stopped (run_at init k) else run_at init k))

-- lists of nodes are one where all their nodes are
ext-runs : (xs ys : List NodeProgress) → length xs ≡ length ys → ((k : ℕ) → k < length xs → run_at xs k ≡ run_at ys k) → xs ≡ ys
ext-runs [] [] long each = refl
ext-runs [] (y ∷ ys) long each = absurd (omega (arith, long))
ext-runs (x ∷ xs) [] long each = absurd (omega (arith, long))
ext-runs (x ∷ xs) (y ∷ ys) long each =
    let tail : xs ≡ ys = ext-runs xs ys (omega (arith, long)) (λ k lt. each (suc k) (omega (arith, lt))) in
    λ j. each 0 (omega arith) j ∷ tail j

pub idle-stopped : (r : NodeProgress) → r.running ≡ false → r ≡ stopped r
idle-stopped r h = λ j. record { course = r.course; machine = r.machine; running = h j }

pub stopped-all : (init now : List NodeProgress) (n : ℕ) → length now ≡ length init → ((k : ℕ) → run_at now k ≡ stopped_below init n k)
    → ((k : ℕ) → n ≤ k → k < length init → (run_at init k).running ≡ false) → now ≡ map stopped init
stopped-all init now n long each idle = ext-runs now (map stopped init) (let m = length-map init stopped in omega (arith, long, m)) (λ k lt.
    each k ∙ below k lt ∙ sym (run_at-stopped init k))
  where
    below : (k : ℕ) → k < length now → stopped_below init n k ≡ stopped (run_at init k)
    below k lt = by_lt k n
        (λ less. λ j. if lt-ltb k n less j then stopped (run_at init k) else run_at init k)
        (λ ge. (λ j. if false_from_ne_true _ (λ t. let l = ltb-true k n t in omega (arith, l, ge)) j then stopped (run_at init k) else run_at init k)
        ∙ idle-stopped (run_at init k) (idle k ge (omega (arith, lt, long))))

-- counters of the same nodes
same-left : (plan : Plan) (aborted aborted' : Bool) (runs runs' : List NodeProgress) (left left' : List ℕ) → IsPlanned plan → AreLeft plan aborted runs left
    → (aborted' ≡ false → aborted ≡ false) → ((p : ℕ) → p < count_of plan → done_at plan runs p ≡ done_at plan runs' p) → length left' ≡ suc (count_of plan)
    → (aborted ≡ false → (n : ℕ) → n < count_of plan → left_at left' n ≡ left_at left n) → AreLeft plan aborted' runs' left'
same-left plan aborted aborted' runs runs' left left' planned are flag same many counters = record {
  many = many;
  each = λ abort_free n lt. counters (flag abort_free) n lt ∙ are.each (flag abort_free) n lt
      ∙ undone-same (done_at plan runs) (done_at plan runs') (count_of plan) same (node_at plan n).parents (parents-below plan planned n);
}

done-by-machine : (plan : Plan) (runs runs' : List NodeProgress) (p : ℕ) → (run_at runs p).machine ≡ (run_at runs' p).machine → done_at plan runs p ≡ done_at plan runs' p
done-by-machine plan runs runs' p e = λ j. (node_at plan p).done || (is_none (e j).phase && (e j).good)

own-left : (left : List ℕ) (node l n count : ℕ) → node < suc count → length left ≡ suc count → (node < count → l ≡ left_at left node) → n < count → left_at (slice_set left node l) n ≡ left_at left n
own-left left node l n count w long own lt = by_same node n
    (λ same. subst (λ m. left_at (slice_set left node l) m ≡ left_at left m) same (at-same left node l 0 (omega (arith, w, long)) ∙ own (omega (arith, same, lt))))
    (λ ne. at-other left node l 0 n ne)

-- a launch and a stop change no stand
pub left-launched : (plan : Plan) (aborted : Bool) (runs : List NodeProgress) (left : List ℕ) (node l : ℕ) → IsPlanned plan → AreLeft plan aborted runs left
    → node < suc (count_of plan) → length runs ≡ suc (count_of plan) → (aborted ≡ false → node < count_of plan → l ≡ left_at left node)
    → AreLeft plan aborted (slice_set runs node (started (run_at runs node))) (slice_set left node l)
left-launched plan aborted runs left node l planned are w many own =
    same-left plan aborted aborted runs (slice_set runs node (started (run_at runs node))) left (slice_set left node l) planned are (λ abort_free. abort_free)
    (λ p lt. done-by-machine plan runs (slice_set runs node (started (run_at runs node))) p (machine p))
    (length-set left node l ∙ are.many) (λ abort_free n lt. own-left left node l n (count_of plan) w are.many (own abort_free) lt)
  where
    machine : (p : ℕ) → (run_at runs p).machine ≡ (run_at (slice_set runs node (started (run_at runs node))) p).machine
    machine p = by_same node p
        (λ same. subst (λ m. (run_at runs m).machine ≡ (run_at (slice_set runs node (started (run_at runs node))) m).machine) same
        (ap (λ (r : NodeProgress). r.machine) (sym (run_at-same runs node (started (run_at runs node)) (omega (arith, w, many))))))
        (λ ne. ap (λ (r : NodeProgress). r.machine) (sym (run_at-other runs node (started (run_at runs node)) p ne)))

pub left-stopped : (plan : Plan) (aborted : Bool) (runs runs' : List NodeProgress) (left left' : List ℕ) → IsPlanned plan → AreLeft plan aborted runs left
    → runs' ≡ map stopped runs → left' ≡ left → AreLeft plan aborted runs' left'
left-stopped plan aborted runs runs' left left' planned are r l =
    same-left plan aborted aborted runs runs' left left' planned are (λ abort_free. abort_free)
    (λ p lt. done-by-machine plan runs runs' p (ap (λ (x : NodeProgress). x.machine) (sym (run_at-stopped runs p) ∙ ap (λ (rs : List NodeProgress). run_at rs p) (sym r))))
    (ap (λ (xs : List ℕ). length xs) l ∙ are.many) (λ abort_free n lt. ap (λ (xs : List ℕ). left_at xs n) l)

module _ (plan : Plan) (planned : IsPlanned plan) (runs : List NodeProgress) (left : List ℕ) (node l : ℕ) (run : NodeProgress)
    (w : node < suc (count_of plan)) (many : length runs ≡ suc (count_of plan)) (undone : done_at plan runs node ≡ false) where
  other-done : (m : ℕ) → (node == m) ≡ false → done_at plan (slice_set runs node run) m ≡ done_at plan runs m
  other-done m ne = done-by-machine plan (slice_set runs node run) runs m (ap (λ (r : NodeProgress). r.machine) (run_at-other runs node run m (eqb-false node m ne)))

  own-done : done_at plan (slice_set runs node run) node ≡ ((node_at plan node).done || (is_none run.machine.phase && run.machine.good))
  own-done = ap (λ (r : NodeProgress). (node_at plan node).done || (is_none r.machine.phase && r.machine.good)) (run_at-same runs node run (omega (arith, w, many)))

  -- where the node whose phase ended is not done after it
  pub left-ended : (aborted aborted' : Bool) → AreLeft plan aborted runs left → (aborted' ≡ false → aborted ≡ false) → (aborted ≡ false → node < count_of plan → l ≡ left_at left node)
      → (nat_lt node (count_of plan) && ((node_at plan node).done || (is_none run.machine.phase && run.machine.good))) ≡ false
      → AreLeft plan aborted' (slice_set runs node run) (slice_set left node l)
  left-ended aborted aborted' are flag own still =
      same-left plan aborted aborted' runs (slice_set runs node run) left (slice_set left node l) planned are flag
      (λ p lt. by_same node p
      (λ same. subst (λ m. done_at plan runs m ≡ done_at plan (slice_set runs node run) m) same
      (undone ∙ sym (own-done ∙ here (lt-ltb node (count_of plan) (omega (arith, same, lt))))))
      (λ ne. sym (done-by-machine plan (slice_set runs node run) runs p (ap (λ (r : NodeProgress). r.machine) (run_at-other runs node run p ne)))))
      (length-set left node l ∙ are.many) (λ abort_free n lt. own-left left node l n (count_of plan) w are.many (own abort_free) lt)
    where
      here : nat_lt node (count_of plan) ≡ true → ((node_at plan node).done || (is_none run.machine.phase && run.machine.good)) ≡ false
      here t = (λ j. sym t j && ((node_at plan node).done || (is_none run.machine.phase && run.machine.good))) ∙ still

  -- each child counts the node
  times-undone : (f : ℕ → Bool) (k : ℕ) → f k ≡ false → (xs : List ℕ) → times k xs ≤ undone_in f xs
  times-undone f k e [] = omega arith
  times-undone f k e (x ∷ xs) = go (k == x) refl (times-undone f k e xs)
    where
      least : (b : Bool) → b ≡ false → 1 ≤ (if b then 0 else 1)
      least true z = absurd (false≢true (sym z))
      least false z = omega arith

      go : (b : Bool) → (k == x) ≡ b → times k xs ≤ undone_in f xs → (if b then 1 else 0) + times k xs ≤ (if f x then 0 else 1) + undone_in f xs
      go true t h = let one = least (f x) (ap f (sym (eqb-true k x t)) ∙ e) in omega (arith, h, one)
      go false t h = omega (arith, h)

  pub left-enough : AreLeft plan false runs left → node < count_of plan → l ≡ left_at left node
      → (child : ℕ) → times child (children_of plan.graph.dag node) ≤ left_at (slice_set left node l) child
  left-enough are lt own child = by_lt child (count_of plan)
      (λ less.
      let turned = times-turned plan planned node child lt less in
      let few = times-undone (done_at plan runs) node undone (node_at plan child).parents in
      let is = are.each refl child less in
      let same = own-left left node l child (count_of plan) w are.many (λ b. own) less in
      omega (arith, turned, few, is, same))
      (λ ge.
      let n = planned-count plan planned in
      let none = times-above (λ c. list_any (is_edge node c) plan.graph.dag.edges) child 0 (length plan.graph.dag.nodes) (omega (arith, n, ge)) in
      omega (arith, none))

  -- where it is done, each child counts one less
  pub left-done : (aborted : Bool) (left' : List ℕ) → AreLeft plan false runs left → node < count_of plan → l ≡ left_at left node
      → ((node_at plan node).done || (is_none run.machine.phase && run.machine.good)) ≡ true → length left' ≡ suc (count_of plan)
      → ((child : ℕ) → left_at left' child + times child (children_of plan.graph.dag node) ≡ left_at (slice_set left node l) child)
      → AreLeft plan aborted (slice_set runs node run) left'
  left-done aborted left' are lt own now long down = record {
    many = long;
    each = λ abort_free n less.
        let turned = times-turned plan planned node n lt less in
        let one = undone-less (done_at plan runs) (done_at plan (slice_set runs node run)) node other-done undone (own-done ∙ now) (node_at plan n).parents in
        let is = are.each refl n less in
        let same = own-left left node l n (count_of plan) w are.many (λ b. own) less in
        let step = down n in
        omega (arith, turned, one, is, same, step);
  }

-- an abort by the end of a phase is that of its node
pub aborts-own : (plan : Plan) (runs : List NodeProgress) (node : ℕ) (run : NodeProgress) (aborted : Bool) → node < length runs → has_abort_at plan runs node ≡ false → aborted ≡ aborted_in plan runs
    → (node < count_of plan → aborted ≡ false)
    → ((aborted_in plan (slice_set runs node run) && not aborted) ≡ (nat_lt node (count_of plan) && setting_is_met (node_at plan node).course.abort_on run.machine.value))
    × ((aborted || (nat_lt node (count_of plan) && setting_is_met (node_at plan node).course.abort_on run.machine.value)) ≡ aborted_in plan (slice_set runs node run))
aborts-own plan runs node run aborted inside abort_free flag going =
    let one : aborted_in plan (slice_set runs node run) ≡ (aborted || has) = one-abort plan runs node run inside abort_free ∙ (λ j. sym flag j || own j) in
    ((λ j. one j && not aborted) ∙ alone aborted going, sym one)
  where
    has : Bool
    has = nat_lt node (count_of plan) && setting_is_met (node_at plan node).course.abort_on run.machine.value

    own : has_abort_at plan (slice_set runs node run) node ≡ has
    own = ap (λ (r : NodeProgress). nat_lt node (count_of plan) && setting_is_met (node_at plan node).course.abort_on r.machine.value) (run_at-same runs node run inside)

    alone : (a : Bool) → (node < count_of plan → a ≡ false) → ((a || has) && not a) ≡ has
    alone true g = sym (false_from_ne_true _ (λ t. false≢true (sym (g (ltb-true node (count_of plan) (and_parts _ _ t).0)))))
    alone false g = and-true has
      where
        and-true : (b : Bool) → (b && true) ≡ b
        and-true true = refl
        and-true false = refl

pub or-right : (a b : Bool) → b ≡ true → (a || b) ≡ true
or-right true b e = refl
or-right false b e = e

pub or-left : (a b : Bool) → (a || b) ≡ false → a ≡ false
or-left true b h = absurd (false≢true (sym h))
or-left false b h = refl

-- what is put back as it was leaves a list as it was
pub put-own : {A : Type 0} (xs xs' : List A) (i i' : ℕ) (x d : A) → xs' ≡ xs → i' ≡ i → x ≡ unwrap_or (slice_get xs i) d → i < length xs → slice_set xs' i' x ≡ xs
put-own xs xs' i i' x d same at is lt = (λ j. slice_set (same j) (at j) (is j)) ∙ set-own xs i d lt

-- children are ordinary nodes
range-below : (from count n : ℕ) → from + count ≤ n → All (λ k. k < n) (range_with_len from count)
range-below from zero n fits = All-nil (λ k. k < n)
range-below from (suc count) n fits = All-cons (λ k. k < n) from (range_with_len (from + 1) count) (omega arith) (range-below (from + 1) count n (omega arith))

pub child-below : (plan : Plan) → IsPlanned plan → (node i : ℕ) (items : List ℕ) → items ≡ children_of plan.graph.dag node → i < length items → get_or items i 0 < count_of plan
child-below plan planned node i items is inside =
    let dag = plan.graph.dag in
    let all : All (λ c. c < length dag.nodes) items = subst (All (λ c. c < length dag.nodes)) (sym is)
    (All-filter (λ c. list_any (is_edge node c) dag.edges) (λ c. c < length dag.nodes) (range_with_len 0 (length dag.nodes)) (range-below 0 (length dag.nodes) (length dag.nodes) (omega arith))) in
    let low = All-contains (λ c. c < length dag.nodes) items (get_or items i 0) all (Contains-get_or items i 0 inside) in
    let n = planned-count plan planned in omega (arith, low, n)

-- one child counted down
times-drop : (k : ℕ) (items : List ℕ) (i : ℕ) → i < length items → times k (drop i items) ≡ (if k == get_or items i 0 then 1 else 0) + times k (drop (i + 1) items)
times-drop k items i lt = at_drop_more (times k) items i 0 lt

own-one : (k x : ℕ) → k ≡ x → (if k == x then 1 else 0) + 0 ≡ 1
own-one k x e = at (k == x) (eq-eqb k x e)
  where
    at : (b : Bool) → b ≡ true → (if b then 1 else 0) + 0 ≡ 1
    at true t = omega arith
    at false t = absurd (false≢true t)

other-none : (k x : ℕ) → (k ≡ x → ⊥) → (if k == x then 1 else 0) + 0 ≡ 0
other-none k x ne = at (k == x) (false_from_ne_true _ (λ t. ne (eqb-true k x t)))
  where
    at : (b : Bool) → b ≡ false → (if b then 1 else 0) + 0 ≡ 0
    at false f = omega arith
    at true f = absurd (false≢true (sym f))

pub count-room : (init now items : List ℕ) (i child : ℕ) → child ≡ get_or items i 0 → i < length items → ((k : ℕ) → left_at now k + times k items ≡ left_at init k + times k (drop i items))
    → ((k : ℕ) → times k items ≤ left_at init k) → 1 ≤ left_at now child
count-room init now items i child is lt before enough =
    let b = before child in let e = enough child in let d = times-drop child items i lt in let o = own-one child (get_or items i 0) is in omega (arith, b, e, d, o)

pub count-step : (init now items : List ℕ) (i child l : ℕ) → child ≡ get_or items i 0 → i < length items → child < length now → l + 1 ≡ left_at now child
    → ((k : ℕ) → left_at now k + times k items ≡ left_at init k + times k (drop i items))
    → (k : ℕ) → left_at (slice_set now child l) k + times k items ≡ left_at init k + times k (drop (i + 1) items)
count-step init now items i child l is lt w less before k = by_same child k
    (λ same.
    let b = before k in let d = times-drop k items i lt in let o = own-one k (get_or items i 0) (sym same ∙ is) in
    let at : left_at (slice_set now child l) k ≡ l = ap (left_at (slice_set now child l)) (sym same) ∙ at-same now child l 0 w in
    let was : l + 1 ≡ left_at now k = less ∙ ap (left_at now) same in
    omega (arith, b, d, o, at, was))
    (λ ne.
    let b = before k in let d = times-drop k items i lt in let o = other-none k (get_or items i 0) (λ e. ne (is ∙ sym e)) in
    let at : left_at (slice_set now child l) k ≡ left_at now k = at-other now child l 0 k ne in
    omega (arith, b, d, o, at))

-- a place after all nodes is FINAL's, where there is none
pub past-all : (plan : Plan) (n k : ℕ) → node_total plan ≤ n → n ≤ k → k < suc (count_of plan) → (is_some plan.final_node ≡ false) × (count_of plan ≡ k)
past-all plan n k all le lt = go (is_some plan.final_node) refl all
  where
    go : (b : Bool) → is_some plan.final_node ≡ b → (if b then suc (count_of plan) else count_of plan) ≤ n → (is_some plan.final_node ≡ false) × (count_of plan ≡ k)
    go true e a = absurd (omega (arith, a, le, lt))
    go false e a = (e, omega (arith, a, le, lt))

-- how the node is whose phase ended, where others are stopped and where none is
pub turned-machine : (runs now : List NodeProgress) (node : ℕ) (run : NodeProgress) (stops : Bool) → node < length runs
    → now ≡ (if stops then map stopped (slice_set runs node run) else slice_set runs node run) → (run_at now node).machine ≡ run.machine
turned-machine runs now node run stops w is = ap (λ (rs : List NodeProgress). (run_at rs node).machine) is ∙ go stops
  where
    own : (run_at (slice_set runs node run) node).machine ≡ run.machine
    own = ap (λ (r : NodeProgress). r.machine) (run_at-same runs node run w)

    go : (b : Bool) → (run_at (if b then map stopped (slice_set runs node run) else slice_set runs node run) node).machine ≡ run.machine
    go true = ap (λ (r : NodeProgress). r.machine) (run_at-stopped (slice_set runs node run) node) ∙ own
    go false = own
