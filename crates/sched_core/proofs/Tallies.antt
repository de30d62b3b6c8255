-- What a core counts, record after record.
use Rattle.std.proofs.Common.{◌≡◌, ℕ, zero, suc, ◌+◌, ◌<◌, ◌≤◌, Bool, true, false, not, ◌&&◌, ◌||◌, ◌==◌, List, [], ◌∷◌, ◌++◌, Some, None, refl, sym, ap, ◌∙◌, subst, arith, eqb-true, lt-ltb, is_none, if◌then◌else◌}
use Rattle.std.specs.Prelude.{nat_lt}
use Rattle.std.proofs.lemmas.Bool.{and_parts, eqb-false, ltb-true, ltb-false, false_from_ne_true, false≢true}
use Rattle.node_machine.specs.declared.Ended.{Ended}
use Rattle.node_machine.specs.declared.Outcome.{Outcome}
use Rattle.node_machine.specs.declared.Key.{Key}
use Rattle.node_machine.proofs.Trees.{got}
use Rattle.node_machine.proofs.Beginnings.{nil-good, nil-value}
use Rattle.node_machine.specs.NodeProgress.{NodeProgress}
use Rattle.node_machine.specs.Story.{is_good_after, value_after}
use Rattle.node_machine.specs.declared.Record.{Record}
use Rattle.node_machine.specs.declared.Record.TheVariants.{Life, Launch, End, Finish}
use Rattle.run_plan.specs.Plan.{Plan, node_at, count_of, all_below}
use Rattle.sched_core.specs.Bound.{sum_below}
use Rattle.sched_core.specs.Core.{Shows, run_at, is_running, has_abort_at}
use Rattle.node_machine.specs.declared.MachineState.{MachineState}
use Rattle.node_machine.specs.MachineState.{machine_after}
use Rattle.sched_core.specs.Run.{chronological, history, next, is_done, is_aborted, setting_is_met, has_abort_value, outstanding, status_of_abort, may_follow, is_lawful}
use Rattle.sched_core.specs.States.{done_at}
use Rattle.sched_core.specs.Tally.{IsTallied, done_in, status_of_node, stop_status}
use Rattle.sched_core.specs.Turns.{done_by, has_abort_by}
use Rattle.sched_core.proofs.Finished.{all_below-at}
use Rattle.sched_core.proofs.Alone.{alone, among-ordinary}
use Rattle.sched_core.proofs.Aborts.{over-at}
use Rattle.sched_core.proofs.Keys.{each_among}
use Rattle.sched_core.proofs.Sound.{Held, sound, end-among, next-parts}
use Rattle.sched_core.proofs.Held.{end-within}
use Rattle.sched_core.proofs.Shown.{machine-done, machine-value, next-phase}
use Rattle.sched_core.proofs.Sweeps.{all_below-from}
use Rattle.sched_core.proofs.Taking.{sum-one}

-- a count of numbers that pass a test
few : (f : ℕ → Bool) (n : ℕ) → sum_below (λ k. if f k then 1 else 0) n ≤ n
few f zero = omega arith
few f (suc n) = go (f n) (few f n)
  where
    go : (b : Bool) → sum_below (λ k. if f k then 1 else 0) n ≤ n → (if b then 1 else 0) + sum_below (λ k. if f k then 1 else 0) n ≤ suc n
    go true h = omega (arith, h)
    go false h = omega (arith, h)

pub done-few : (plan : Plan) (past : List Record) → done_in plan past ≤ count_of plan
done-few plan past = few (is_done plan past) (count_of plan)

-- all pass just where as many do
pub all-counted : (f : ℕ → Bool) (n : ℕ) → (sum_below (λ k. if f k then 1 else 0) n == n) ≡ all_below f n
all-counted f zero = refl
all-counted f (suc n) = go (f n) (all-counted f n) (few f n)
  where
    sum : ℕ
    sum = sum_below (λ k. if f k then 1 else 0) n

    one : (a b c d : ℕ) → (a ≡ b → c ≡ d) → (c ≡ d → a ≡ b) → (a == b) ≡ (c == d)
    one a b c d to back = at (a == b) refl
      where
        at : (t : Bool) → (a == b) ≡ t → (a == b) ≡ (c == d)
        at true e = e ∙ sym (eq-true c d (to (eqb-true a b e)))
          where
            eq-true : (x y : ℕ) → x ≡ y → (x == y) ≡ true
            eq-true x y h = false-not (x == y) (λ f. eqb-false x y f h)
              where
                false-not : (u : Bool) → (u ≡ false → ⊥) → u ≡ true
                false-not true k = refl
                false-not false k = absurd (k refl)
        at false e = e ∙ sym (false_from_ne_true _ (λ t. eqb-false a b e (back (eqb-true c d t))))

    go : (b : Bool) → (sum == n) ≡ all_below f n → sum ≤ n → (((if b then 1 else 0) + sum) == suc n) ≡ (b && all_below f n)
    go true h le = one (1 + sum) (suc n) sum n (λ e. omega (arith, e)) (λ e. omega (arith, e)) ∙ h
    go false h le = false_from_ne_true _ (λ t. let e = eqb-true (0 + sum) (suc n) t in omega (arith, e, le))

pub fresh-done : (plan : Plan) → sum_below (λ node. if (node_at plan node).done then 1 else 0) (count_of plan) ≡ done_in plan []
fresh-done plan = same (count_of plan)
  where
    or-false : (b : Bool) → b ≡ (b || false)
    or-false true = refl
    or-false false = refl

    same : (n : ℕ) → sum_below (λ node. if (node_at plan node).done then 1 else 0) n ≡ sum_below (λ node. if is_done plan [] node then 1 else 0) n
    same zero = refl
    same (suc n) = λ j. (if (or-false (node_at plan n).done ∙ ap (λ b. (node_at plan n).done || b) (sym (not-good n))) j then 1 else 0) + same n j
      where
        not-good : (n : ℕ) → is_good_after (node_at plan n).course [] ≡ false
        not-good n = nil-good (node_at plan n).course

-- no abort, no status of one
pub abort_free-status : (plan : Plan) (past : List Record) (n : ℕ) → all_below (λ node. not (has_abort_value plan past node)) n ≡ true → status_of_abort plan past n ≡ 1
abort_free-status plan past zero h = refl
abort_free-status plan past (suc n) h =
    let parts = and_parts _ _ h in
    (λ j. if not-true-false (has_abort_value plan past n) parts.0 j then status_of_node plan n else status_of_abort plan past n) ∙ abort_free-status plan past n parts.1
  where
    not-true-false : (b : Bool) → not b ≡ true → b ≡ false
    not-true-false true e = absurd (false≢true e)
    not-true-false false e = refl

-- before any record
pub fresh-tallied : (plan : Plan) (records : List Record) (done : ℕ) → records ≡ [] → done ≡ sum_below (λ node. if (node_at plan node).done then 1 else 0) (count_of plan)
    → IsTallied plan (chronological records) done 1
fresh-tallied plan records done none is = subst (λ (l : List Record). IsTallied plan (chronological l) done 1) (sym none) (record {
  done_is = is ∙ fresh-done plan;
  status_is = sym (abort_free-status plan [] (count_of plan)
      (all_below-from (λ node. not (has_abort_value plan [] node)) (count_of plan)
      (λ node lt. λ j. not (setting_is_met (node_at plan node).course.abort_on (nil-value (node_at plan node).course j)))));
})

-- a node whose phase is to come is not done
pub going-undone : (plan : Plan) (past : List Record) → is_lawful plan past ≡ true → (key : Key) → next plan past key.node ≡ Some key → is_done plan past key.node ≡ false
going-undone plan past lawful key is =
    let phase = next-phase plan past lawful key is in
    let undone = (next-parts plan past key.node key is).0 in
    sym (machine-done plan past lawful key.node)
    ∙ (λ j. undone j || (ap is_none phase j && (machine_after (node_at plan key.node).course (history past key.node)).good))

-- where nodes have their abort values alike, the status is one
same-status : (plan : Plan) (past now : List Record) (n : ℕ) → ((k : ℕ) → k < n → has_abort_value plan now k ≡ has_abort_value plan past k) → status_of_abort plan now n ≡ status_of_abort plan past n
same-status plan past now zero same = refl
same-status plan past now (suc n) same =
    λ j. if same n (omega arith) j then status_of_node plan n else same-status plan past now n (λ k lt. same k (omega (arith, lt))) j

-- where one alone has it, the status is that node's
one-status : (plan : Plan) (now : List Record) (k n : ℕ) → k < n → has_abort_value plan now k ≡ true → ((m : ℕ) → m < n → (k == m) ≡ false → has_abort_value plan now m ≡ false)
    → status_of_abort plan now n ≡ status_of_node plan k
one-status plan now k zero lt has others = absurd (omega (arith, lt))
one-status plan now k (suc n) lt has others = go (k == n) refl (λ below. one-status plan now k n below has (λ m less. others m (omega (arith, less))))
  where
    go : (b : Bool) → (k == n) ≡ b → (k < n → status_of_abort plan now n ≡ status_of_node plan k)
        → (if has_abort_value plan now n then status_of_node plan n else status_of_abort plan now n) ≡ status_of_node plan k
    go true e below =
        let is : k ≡ n = eqb-true k n e in
        (λ j. if (ap (has_abort_value plan now) (sym is) ∙ has) j then status_of_node plan n else status_of_abort plan now n) ∙ ap (status_of_node plan) (sym is)
    go false e below =
        let ne = eqb-false k n e in
        (λ j. if others n (omega arith) e j then status_of_node plan n else status_of_abort plan now n) ∙ below (less k n ne lt)
      where
        less : (a b : ℕ) → (a ≡ b → ⊥) → a < suc b → a < b
        less a b ne lt = at (nat_lt a b) refl
          where
            at : (t : Bool) → nat_lt a b ≡ t → a < b
            at true t = ltb-true a b t
            at false f = let g = ltb-false a b f in absurd (ne (omega (arith, g, lt)))

module _ (plan : Plan) (past : List Record) (lawful : is_lawful plan past ≡ true) (key : Key) (outcome : Outcome) (may : may_follow plan past (End key outcome) ≡ true) where
  abbrev now : List Record
  now = End key outcome ∷ past

  ended-held : Held plan past key
  ended-held = each_among (Held plan past) key (outstanding plan past) (sound plan past lawful).held (end-among plan past key outcome may).0

  pub ended-undone : is_done plan past key.node ≡ false
  ended-undone = going-undone plan past lawful key ended-held.is_next

  -- an ordinary node's phase ends before any abort
  pub ended-going : key.node < count_of plan → is_aborted plan past ≡ false
  ended-going lt = false_from_ne_true _ (λ t.
      let ge = among-ordinary plan key (outstanding plan past) ((alone plan past lawful).aborted t) (end-among plan past key outcome may).0 in omega (arith, lt, ge))

  -- and while FINAL doesn't run
  pub ended-alone : key.node < count_of plan → is_running plan past (count_of plan) ≡ false
  ended-alone lt = false_from_ne_true _ (λ t.
      let ge = among-ordinary plan key (outstanding plan past) ((alone plan past lawful).others t) (end-among plan past key outcome may).0 in omega (arith, lt, ge))

  abbrev hist : ℕ → Bool → List Ended
  hist node b = if b then history past node ++ got key.attempt key.phase outcome ∷ [] else history past node

  other-done : (m : ℕ) → (key.node == m) ≡ false → is_done plan now m ≡ is_done plan past m
  other-done m ne = λ j. (node_at plan m).done || is_good_after (node_at plan m).course (hist m (ne j))

  other-abort : (m : ℕ) → (key.node == m) ≡ false → has_abort_value plan now m ≡ has_abort_value plan past m
  other-abort m ne = λ j. setting_is_met (node_at plan m).course.abort_on (value_after (node_at plan m).course (hist m (ne j)))

  own-abort_free : has_abort_value plan past key.node ≡ false
  own-abort_free = false_from_ne_true _ (λ t.
      let bad : None ≡ Some (key.attempt, key.phase) = sym (over-at plan past lawful key.node t) ∙ (next-parts plan past key.node key ended-held.is_next).1 in absurd cc)

  pub done-ended : done_in plan now ≡ (if nat_lt key.node (count_of plan) then (if is_done plan now key.node then 1 else 0) else 0) + done_in plan past
  done-ended = sum-one (λ node. if is_done plan past node then 1 else 0) (λ node. if is_done plan now node then 1 else 0) key.node
      (λ m ne. λ j. if other-done m ne j then 1 else 0) (λ j. if ended-undone j then 1 else 0) (count_of plan)

  pub status-ended : (b : Bool) → (nat_lt key.node (count_of plan) && has_abort_value plan now key.node) ≡ b
      → (if b then status_of_node plan key.node else status_of_abort plan past (count_of plan)) ≡ status_of_abort plan now (count_of plan)
  unfolding is_aborted
  status-ended true t =
      let parts = and_parts _ _ t in
      let lt = ltb-true key.node (count_of plan) parts.0 in
      sym (one-status plan now key.node (count_of plan) lt parts.1 (λ m less ne. other-abort m ne ∙ abort_free m less (ended-going lt)))
    where
      abort_free : (m : ℕ) → m < count_of plan → is_aborted plan past ≡ false → has_abort_value plan past m ≡ false
      abort_free m less going = turn (has_abort_value plan past m) (all_below-at (λ node. not (has_abort_value plan past node)) (count_of plan) (turn' (all_below (λ node. not (has_abort_value plan past node)) (count_of plan)) going) m less)
        where
          turn : (b : Bool) → not b ≡ true → b ≡ false
          turn true e = absurd (false≢true e)
          turn false e = refl

          turn' : (b : Bool) → not b ≡ false → b ≡ true
          turn' true e = refl
          turn' false e = absurd (false≢true (sym e))
  status-ended false f = sym (same-status plan past now (count_of plan) (λ k lt. go k lt (key.node == k) refl))
    where
      go : (k : ℕ) → k < count_of plan → (b : Bool) → (key.node == k) ≡ b → has_abort_value plan now k ≡ has_abort_value plan past k
      go k lt false ne = other-abort k ne
      go k lt true e =
          let is : key.node ≡ k = eqb-true key.node k e in
          let own : has_abort_value plan now key.node ≡ false = (λ j. sym (lt-ltb key.node (count_of plan) (omega (arith, is, lt))) j && has_abort_value plan now key.node) ∙ f in
          subst (λ m. has_abort_value plan now m ≡ has_abort_value plan past m) is (own ∙ sym own-abort_free)

-- the counts after a record
pub tallied-next : (plan : Plan) (past now : List Record) (entry : Record) (runs : List NodeProgress) (aborted : Bool) (jobs done done' status status' : ℕ) → is_lawful plan past ≡ true
    → IsTallied plan past done status → may_follow plan past entry ≡ true → now ≡ entry ∷ past → Shows plan now runs aborted jobs
    → done' ≡ (if done_by plan runs entry then suc done else done) → status' ≡ (if has_abort_by plan runs entry then stop_status plan status entry else status)
    → IsTallied plan now done' status'
tallied-next plan past now Life runs aborted jobs done done' status status' lawful is may n shown d t = subst (λ (l : List Record). IsTallied plan l done' status') (sym n) (record {
  done_is = d ∙ is.done_is;
  status_is = t ∙ is.status_is ∙ same-status plan (Life ∷ past) past (count_of plan) (λ k lt. refl);
})
tallied-next plan past now (Launch key number) runs aborted jobs done done' status status' lawful is may n shown d t = subst (λ (l : List Record). IsTallied plan l done' status') (sym n) (record {
  done_is = d ∙ is.done_is;
  status_is = t ∙ is.status_is ∙ same-status plan (Launch key number ∷ past) past (count_of plan) (λ k lt. refl);
})
tallied-next plan past now (Finish other) runs aborted jobs done done' status status' lawful is may n shown d t = subst (λ (l : List Record). IsTallied plan l done' status') (sym n) (record {
  done_is = d ∙ is.done_is;
  status_is = t ∙ is.status_is ∙ same-status plan (Finish other ∷ past) past (count_of plan) (λ k lt. refl);
})
tallied-next plan past now (End key outcome) runs aborted jobs done done' status status' lawful is may n shown d t = subst (λ (l : List Record). IsTallied plan l done' status') (sym n) (record {
  done_is = d ∙ (λ j. if nat_lt key.node (count_of plan) && done_here j then suc (is.done_is j) else is.done_is j)
      ∙ counted (nat_lt key.node (count_of plan)) (is_done plan (End key outcome ∷ past) key.node) ∙ sym (done-ended plan past lawful key outcome may);
  status_is = t ∙ (λ j. if abort_here j then status_of_node plan key.node else is.status_is j)
      ∙ status-ended plan past lawful key outcome may (nat_lt key.node (count_of plan) && has_abort_value plan (End key outcome ∷ past) key.node) refl;
})
  where
    next_shown : Shows plan (End key outcome ∷ past) runs aborted jobs
    next_shown = subst (λ (l : List Record). Shows plan l runs aborted jobs) n shown

    stand_is : (run_at runs key.node).machine ≡ machine_after (node_at plan key.node).course (history (End key outcome ∷ past) key.node)
    stand_is = ap (λ (r : NodeProgress). r.machine) (next_shown.runs_are key.node (end-within plan past key outcome lawful may))

    done_here : done_at plan runs key.node ≡ is_done plan (End key outcome ∷ past) key.node
    done_here = (λ j. (node_at plan key.node).done || (is_none (stand_is j).phase && (stand_is j).good)) ∙ machine-done plan (End key outcome ∷ past) next_shown.lawful key.node

    abort_here : has_abort_at plan runs key.node ≡ (nat_lt key.node (count_of plan) && has_abort_value plan (End key outcome ∷ past) key.node)
    abort_here = λ j. nat_lt key.node (count_of plan) && setting_is_met (node_at plan key.node).course.abort_on ((ap (λ (s : MachineState). s.value) stand_is ∙ machine-value plan (End key outcome ∷ past) next_shown.lawful key.node) j)

    counted : (a b : Bool) → (if a && b then suc (done_in plan past) else done_in plan past) ≡ (if a then (if b then 1 else 0) else 0) + done_in plan past
    counted true true = (let e : suc (done_in plan past) ≡ 1 + done_in plan past = omega arith in e)
    counted true false = (let e : done_in plan past ≡ 0 + done_in plan past = omega arith in e)
    counted false b = (let e : done_in plan past ≡ 0 + done_in plan past = omega arith in e)

-- and there is room for one more
pub done-room : (plan : Plan) (past : List Record) (done status count : ℕ) → IsTallied plan past done status → count ≡ done → count ≤ count_of plan
done-room plan past done status count is e = let few = done-few plan past in let d = is.done_is in omega (arith, few, d, e)
