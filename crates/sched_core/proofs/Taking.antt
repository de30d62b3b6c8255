-- What a record does to the nodes at hand: no look at the others is needed.
use Rattle.std.proofs.Common.{◌≡◌, ℕ, zero, suc, ◌+◌, ◌<◌, ◌≤◌, Bool, true, false, not, ◌&&◌, ◌||◌, List, [], ◌∷◌, ◌++◌, ◌==◌, Option, Some, None, is_none, unwrap_or, slice_set, refl, sym, ap, ◌∙◌, subst, arith, eqb-true, lt-ltb, length, length-set, if◌then◌else◌}
use Rattle.std.specs.Prelude.{nat_lt}
use Rattle.std.proofs.lemmas.Bool.{eqb-false, ltb-true, ltb-false, false_from_ne_true, false≢true}
use Rattle.node_machine.specs.declared.Phase.{Phase}
use Rattle.node_machine.specs.declared.Phase.TheVariants.{Pre, Job}
use Rattle.node_machine.specs.declared.Outcome.TheVariants.{Exit}
use Rattle.node_machine.specs.declared.Outcome.{Outcome}
use Rattle.node_machine.specs.declared.Key.{Key}
use Rattle.node_machine.specs.declared.MachineState.{MachineState}
use Rattle.node_machine.specs.declared.Ended.{Ended}
use Rattle.node_machine.proofs.Trees.{got}
use Rattle.node_machine.specs.NodeProgress.{NodeProgress}
use Rattle.node_machine.specs.Story.{next_after, is_good_after}
use Rattle.node_machine.specs.NodeRun.{ended_with}
use Rattle.node_machine.specs.MachineState.{next_of, machine_after}
use Rattle.node_machine.proofs.Standing.{steps-next}
use Rattle.run_plan.specs.Plan.{Plan, node_at, count_of, all_below}
use Rattle.node_machine.specs.declared.Record.{Record}
use Rattle.node_machine.specs.declared.Record.TheVariants.{Life, Launch, End, Finish}
use Rattle.sched_core.specs.Run.{chronological, history, key_at, next, is_done, is_in_error, setting_is_met, has_abort_value, is_aborted, outstanding, is_among, is_lawful, may_follow}
use Rattle.sched_core.specs.Core.{Shows, TakesRecord, run_at, aborted_in, has_abort_at, is_stuck_at}
use Rattle.sched_core.proofs.Failed.{failed_after}
use Rattle.sched_core.specs.Commands.{failed_in, dag_status_in, newest_launch, facts_in}
use Rattle.sched_core.specs.AttemptValues.{job_value_of, pre_value_of}
use Rattle.sched_core.specs.Bound.{sum_below}
use Rattle.node_machine.proofs.Beginnings.{nil-next}
use Rattle.sched_core.specs.declared.notes.AttemptNotes.{AttemptNotes}
use Rattle.sched_core.specs.Notes.{first_ended, phase_key, noted_facts, notes_of, notes_at, notes_after, with_launch, with_phase_outcome, AreNotes, IsNoted}
use Rattle.sched_core.proofs.Keys.{each_among}
use Rattle.sched_core.proofs.Sound.{Held, sound, end-among, next-parts, launch-held}
use Rattle.sched_core.proofs.Held.{histories-are, end-within, launched-within, launched-idle, ended-runs}
use Rattle.sched_core.proofs.Shown.{machine-next, machine-done, machine-value, aborted-is, shows-after}
use Rattle.sched_core.proofs.Sweeps.{all_below-same, run_at-other}
use Rattle.sched_core.proofs.Aborts.{over-at}
use Rattle.sched_core.proofs.FactsLemmas.{first-outcome, among-within}
use Rattle.sched_core.proofs.Noted.{IsNewest, outstanding-newest, notes-next}

none-below : (k : ℕ) → nat_lt k 0 ≡ false
none-below k = false_from_ne_true _ (λ t. let lt = ltb-true k 0 t in omega (arith, lt))

-- a sweep in which one test changed, that was passed before
all_below-one : (test other : ℕ → Bool) (k : ℕ) → ((m : ℕ) → (k == m) ≡ false → other m ≡ test m) → test k ≡ true
    → (n : ℕ) → all_below other n ≡ (all_below test n && (not (nat_lt k n) || other k))
all_below-one test other k same passed zero =
    sym (λ j. not (none-below k j) || other k)
all_below-one test other k same passed (suc n) = go (k == n) refl (all_below-one test other k same passed n)
  where
    with-own : (a b : Bool) → (a && (b && true)) ≡ (true && b && a)
    with-own a b = elim a as (λ x. (x && (b && true)) ≡ (true && b && x)) [ true ↦ (elim b as (λ y. (true && (y && true)) ≡ (true && y && true)) [ true ↦ refl | false ↦ refl ]) | false ↦ (elim b as (λ y. (false && (y && true)) ≡ (true && y && false)) [ true ↦ refl | false ↦ refl ]) ]

    assoc : (a b c : Bool) → (a && (b && c)) ≡ ((a && b) && c)
    assoc true b c = refl
    assoc false b c = refl

    go : (b : Bool) → (k == n) ≡ b → all_below other n ≡ (all_below test n && (not (nat_lt k n) || other k))
        → (other n && all_below other n) ≡ ((test n && all_below test n) && (not (nat_lt k (suc n)) || other k))
    go true e before =
        let is : k ≡ n = eqb-true k n e in
        let here : nat_lt k n ≡ false = false_from_ne_true _ (λ t. let lt = ltb-true k n t in omega (arith, lt, is)) in
        let below : nat_lt k (suc n) ≡ true = lt-ltb k (suc n) (omega (arith, is)) in
        (λ j. other (sym is j) && (before ∙ (λ i. all_below test n && (not (here i) || other k))) j)
        ∙ with-own (other k) (all_below test n)
        ∙ (λ j. (sym passed ∙ ap test is) j && all_below test n && other k)
        ∙ (λ j. (test n && all_below test n) && (not (sym below j) || other k))
    go false e before =
        let differs = eqb-false k n e in
        let bound : nat_lt k (suc n) ≡ nat_lt k n = same-test k n differs in
        (λ j. same n e j && before j) ∙ assoc (test n) (all_below test n) (not (nat_lt k n) || other k)
        ∙ (λ j. (test n && all_below test n) && (not (sym bound j) || other k))
      where
        same-test : (k n : ℕ) → (k ≡ n → ⊥) → nat_lt k (suc n) ≡ nat_lt k n
        same-test k n ne = at (nat_lt k n) refl
          where
            at : (b : Bool) → nat_lt k n ≡ b → nat_lt k (suc n) ≡ nat_lt k n
            at true t = lt-ltb k (suc n) (let lt = ltb-true k n t in omega (arith, lt)) ∙ sym t
            at false f = false_from_ne_true _ (λ t. let lt = ltb-true k (suc n) t in let ge = ltb-false k n f in ne (omega (arith, lt, ge))) ∙ sym f

-- the flag for an abort follows from the node whose phase ended
pub one-abort : (plan : Plan) (runs : List NodeProgress) (node : ℕ) (now : NodeProgress) → node < length runs → has_abort_at plan runs node ≡ false
    → aborted_in plan (slice_set runs node now) ≡ (aborted_in plan runs || has_abort_at plan (slice_set runs node now) node)
one-abort plan runs node now within abort_free = go (nat_lt node (count_of plan)) refl
  where
    after : List NodeProgress
    after = slice_set runs node now

    calm_before : ℕ → Bool
    calm_before k = not (setting_is_met (node_at plan k).course.abort_on (run_at runs k).machine.value)

    calm_after : ℕ → Bool
    calm_after k = not (setting_is_met (node_at plan k).course.abort_on (run_at after k).machine.value)

    others : (m : ℕ) → (node == m) ≡ false → calm_after m ≡ calm_before m
    others m ne = λ j. not (setting_is_met (node_at plan m).course.abort_on (run_at-other runs node now m (eqb-false node m ne) j).machine.value)

    not-and : (a b : Bool) → not (a && not b) ≡ (not a || b)
    not-and true true = refl
    not-and true false = refl
    not-and false b = refl

    or-false : (a : Bool) → a ≡ (a || false)
    or-false true = refl
    or-false false = refl

    go : (b : Bool) → nat_lt node (count_of plan) ≡ b → aborted_in plan after ≡ (aborted_in plan runs || (nat_lt node (count_of plan) && setting_is_met (node_at plan node).course.abort_on (run_at after node).machine.value))
    go true t =
        let passed : calm_before node ≡ true = ap not ((λ j. sym t j && setting_is_met (node_at plan node).course.abort_on (run_at runs node).machine.value) ∙ abort_free) in
        ap not (all_below-one calm_before calm_after node others passed (count_of plan) ∙ (λ j. all_below calm_before (count_of plan) && (not (t j) || calm_after node)))
        ∙ not-and (all_below calm_before (count_of plan)) (setting_is_met (node_at plan node).course.abort_on (run_at after node).machine.value)
        ∙ (λ j. aborted_in plan runs || (sym t j && setting_is_met (node_at plan node).course.abort_on (run_at after node).machine.value))
    go false f =
        ap not (all_below-same calm_after calm_before (count_of plan) (λ m lt. others m (false_from_ne_true _ (λ t. let e = eqb-true node m t in let ge = ltb-false node (count_of plan) f in omega (arith, e, ge, lt)))))
        ∙ or-false (aborted_in plan runs)
        ∙ (λ j. aborted_in plan runs || (sym f j && setting_is_met (node_at plan node).course.abort_on (run_at after node).machine.value))

-- what a record takes
pub shows-takes : (plan : Plan) (past : List Record) (runs : List NodeProgress) (aborted : Bool) (jobs : ℕ) → Shows plan past runs aborted jobs
    → (entry : Record) → may_follow plan past entry ≡ true → TakesRecord plan runs entry
shows-takes plan past runs aborted jobs s Life h = tt
shows-takes plan past runs aborted jobs s (Launch key number) h =
    let w = launched-within plan past key number h in
    let r = s.runs_are key.node w in (
      w,
      ap (λ (t : NodeProgress). t.running) r ∙ launched-idle plan past key number s.lawful h,
      ap (λ (t : NodeProgress). next_of t.machine t.machine.phase) r
          ∙ sym (steps-next (node_at plan key.node).course (history past key.node) (histories-are plan past s.lawful key.node))
          ∙ (next-parts plan past key.node key (launch-held plan past key number h).is_next).1,
    )
shows-takes plan past runs aborted jobs s (End key outcome) h =
    let w = end-within plan past key outcome s.lawful h in (
      w,
      ap (λ (t : NodeProgress). t.running) (s.runs_are key.node w) ∙ ended-runs plan past key outcome s.lawful h,
      (λ j. nat_lt key.node (count_of plan) && setting_is_met (node_at plan key.node).course.abort_on ((ap (λ (t : NodeProgress). t.machine.value) (s.runs_are key.node w) ∙ machine-value plan past s.lawful key.node) j))
          ∙ (λ j. nat_lt key.node (count_of plan) && abort_free j) ∙ and-false (nat_lt key.node (count_of plan)),
    )
  where
    and-false : (b : Bool) → (b && false) ≡ false
    and-false true = refl
    and-false false = refl

    held : Held plan past key
    held = each_among (Held plan past) key (outstanding plan past) (sound plan past s.lawful).held (end-among plan past key outcome h).0

    abort_free : has_abort_value plan past key.node ≡ false
    abort_free = false_from_ne_true _ (λ t.
        let bad : None ≡ Some (key.attempt, key.phase) = sym (over-at plan past s.lawful key.node t) ∙ (next-parts plan past key.node key held.is_next).1 in cc)
shows-takes plan past runs aborted jobs s (Finish status) h = tt

-- the flag for an abort is that of the nodes
pub flag-shown : (plan : Plan) (past : List Record) (runs : List NodeProgress) (aborted : Bool) (jobs : ℕ) → Shows plan past runs aborted jobs → aborted ≡ aborted_in plan runs
flag-shown plan past runs aborted jobs s =
    s.aborted_is ∙ sym (aborted-is plan past s.lawful runs (λ node lt. ap (λ (r : NodeProgress). r.machine) (s.runs_are node lt)))

-- an ordinary node that is stuck is in error
none-key : (node : ℕ) (machine : MachineState) (o : Option Phase) → is_none (key_at node (next_of machine o)) ≡ is_none o
none-key node machine None = refl
none-key node machine (Some phase) = refl

stuck-error : (plan : Plan) (past : List Record) (runs : List NodeProgress) (aborted : Bool) (jobs : ℕ) → Shows plan past runs aborted jobs
    → (node : ℕ) → node < suc (count_of plan) → is_stuck_at plan runs node ≡ (nat_lt node (count_of plan) && is_in_error plan past node)
stuck-error plan past runs aborted jobs s node lt =
    (λ j. nat_lt node (count_of plan) && (not (node_at plan node).done && (is_none (stand_is j).phase && not (stand_is j).good)))
    ∙ (λ j. nat_lt node (count_of plan) && both (node_at plan node).done (is_none machine.phase) machine.good j)
    ∙ (λ j. nat_lt node (count_of plan) && (not (machine-done plan past s.lawful node j) && (own-next j)))
  where
    machine : MachineState
    machine = machine_after (node_at plan node).course (history past node)

    stand_is : (run_at runs node).machine ≡ machine
    stand_is = ap (λ (r : NodeProgress). r.machine) (s.runs_are node lt)

    -- done, no phase, good
    both : (d n g : Bool) → (not d && (n && not g)) ≡ (not (d || (n && g)) && (if d then true else n))
    both true n g = refl
    both false true true = refl
    both false true false = refl
    both false false g = refl

    own-next : (if (node_at plan node).done then true else is_none machine.phase) ≡ is_none (next plan past node)
    own-next = cases (node_at plan node).done ∙ ap is_none (machine-next plan past s.lawful node)
      where
        cases : (d : Bool) → (if d then true else is_none machine.phase) ≡ is_none (if d then None else key_at node (next_of machine machine.phase))
        cases true = refl
        cases false = sym (none-key node machine machine.phase)

-- a sum in which one number rose from 0
pub sum-one : (f g : ℕ → ℕ) (k : ℕ) → ((m : ℕ) → (k == m) ≡ false → g m ≡ f m) → f k ≡ 0
    → (n : ℕ) → sum_below g n ≡ (if nat_lt k n then g k else 0) + sum_below f n
sum-one f g k same low zero = sym (λ j. (if none-below k j then g k else 0) + 0)
sum-one f g k same low (suc n) = go (k == n) refl (sum-one f g k same low n)
  where
    go : (b : Bool) → (k == n) ≡ b → sum_below g n ≡ (if nat_lt k n then g k else 0) + sum_below f n
        → g n + sum_below g n ≡ (if nat_lt k (suc n) then g k else 0) + (f n + sum_below f n)
    go true e before =
        let is : k ≡ n = eqb-true k n e in
        let here : nat_lt k n ≡ false = false_from_ne_true _ (λ t. let lt = ltb-true k n t in omega (arith, lt, is)) in
        let below : nat_lt k (suc n) ≡ true = lt-ltb k (suc n) (omega (arith, is)) in
        let c : sum_below g n ≡ 0 + sum_below f n = before ∙ (λ j. (if here j then g k else 0) + sum_below f n) in
        let b : sum_below g n ≡ sum_below f n = omega (arith, c) in
        let own = ap g is in let zero_is : f n ≡ 0 = ap f (sym is) ∙ low in
        (let e : g n + sum_below g n ≡ g k + (f n + sum_below f n) = omega (arith, b, own, zero_is) in e)
        ∙ (λ j. (if sym below j then g k else 0) + (f n + sum_below f n))
    go false e before = step (nat_lt k n) refl
      where
        step : (b : Bool) → nat_lt k n ≡ b → g n + sum_below g n ≡ (if nat_lt k (suc n) then g k else 0) + (f n + sum_below f n)
        step true t =
            let s = same n e in
            let b : sum_below g n ≡ g k + sum_below f n = before ∙ (λ j. (if t j then g k else 0) + sum_below f n) in
            let below : nat_lt k (suc n) ≡ true = lt-ltb k (suc n) (let lt = ltb-true k n t in omega (arith, lt)) in
            (let e : g n + sum_below g n ≡ g k + (f n + sum_below f n) = omega (arith, s, b) in e)
            ∙ (λ j. (if sym below j then g k else 0) + (f n + sum_below f n))
        step false t =
            let s = same n e in
            let c : sum_below g n ≡ 0 + sum_below f n = before ∙ (λ j. (if t j then g k else 0) + sum_below f n) in
            let b : sum_below g n ≡ sum_below f n = omega (arith, c) in
            let above : nat_lt k (suc n) ≡ false = false_from_ne_true _ (λ u. let lt = ltb-true k (suc n) u in let ge = ltb-false k n t in eqb-false k n e (omega (arith, lt, ge))) in
            (let e : g n + sum_below g n ≡ 0 + (f n + sum_below f n) = omega (arith, s, b) in e)
            ∙ (λ j. (if sym above j then g k else 0) + (f n + sum_below f n))

-- no more nodes are in error than there are
pub failed-few : (plan : Plan) (past : List Record) → failed_in plan past ≤ count_of plan
failed-few plan past = few (count_of plan)
  where
    few : (n : ℕ) → sum_below (λ node. if is_in_error plan past node then 1 else 0) n ≤ n
    few zero = omega arith
    few (suc n) = go (is_in_error plan past n) (few n)
      where
        go : (b : Bool) → sum_below (λ node. if is_in_error plan past node then 1 else 0) n ≤ n → (if b then 1 else 0) + sum_below (λ node. if is_in_error plan past node then 1 else 0) n ≤ suc n
        go true h = omega (arith, h)
        go false h = omega (arith, h)

-- the nodes in error, counted on
pub failed-next : (plan : Plan) (past : List Record) (runs runs' : List NodeProgress) (aborted aborted' : Bool) (jobs jobs' : ℕ) → Shows plan past runs aborted jobs
    → (entry : Record) → may_follow plan past entry ≡ true → Shows plan (entry ∷ past) runs' aborted' jobs'
    → failed_after plan runs' (failed_in plan past) entry ≡ failed_in plan (entry ∷ past)
failed-next plan past runs runs' aborted aborted' jobs jobs' s Life h now = refl
failed-next plan past runs runs' aborted aborted' jobs jobs' s (Launch key number) h now = refl
failed-next plan past runs runs' aborted aborted' jobs jobs' s (Finish status) h now = refl
failed-next plan past runs runs' aborted aborted' jobs jobs' s (End key outcome) h now =
    (λ j. if stuck-error plan (End key outcome ∷ past) runs' aborted' jobs' now key.node (end-within plan past key outcome s.lawful h) j then suc (failed_in plan past) else failed_in plan past)
    ∙ counted (nat_lt key.node (count_of plan)) (is_in_error plan (End key outcome ∷ past) key.node)
    ∙ sym (sum-one one other key.node others own (count_of plan))
  where
    one : ℕ → ℕ
    one node = if is_in_error plan past node then 1 else 0

    other : ℕ → ℕ
    other node = if is_in_error plan (End key outcome ∷ past) node then 1 else 0

    held : Held plan past key
    held = each_among (Held plan past) key (outstanding plan past) (sound plan past s.lawful).held (end-among plan past key outcome h).0

    in_error_by : ℕ → List Ended → Bool
    in_error_by m es =
        not ((node_at plan m).done || is_good_after (node_at plan m).course es)
        && is_none (if (node_at plan m).done then None else key_at m (next_after (node_at plan m).course es))

    others : (m : ℕ) → (key.node == m) ≡ false → other m ≡ one m
    others m ne = λ j. if in_error_by m (if ne j then history past m ++ got key.attempt key.phase outcome ∷ [] else history past m) then 1 else 0

    and-false : (b : Bool) → (b && false) ≡ false
    and-false true = refl
    and-false false = refl

    own : one key.node ≡ 0
    own = (λ j. if not (is_done plan past key.node) && is_none (held.is_next j) then 1 else 0) ∙ (λ j. if and-false (not (is_done plan past key.node)) j then 1 else 0)

    counted : (a b : Bool) → (if a && b then suc (failed_in plan past) else failed_in plan past) ≡ (if a then (if b then 1 else 0) else 0) + failed_in plan past
    counted true true = (let e : suc (failed_in plan past) ≡ 1 + failed_in plan past = omega arith in e)
    counted true false = (let e : failed_in plan past ≡ 0 + failed_in plan past = omega arith in e)
    counted false b = (let e : failed_in plan past ≡ 0 + failed_in plan past = omega arith in e)

none-and : (b : Bool) → (b && false) ≡ false
none-and true = refl
none-and false = refl

none-at : (node : ℕ) (o : Option (ℕ × Phase)) → is_none (key_at node o) ≡ is_none o
none-at node None = refl
none-at node (Some next) = refl

-- before any record none is in error
pub fresh-noted : (plan : Plan) (records : List Record) (notes : List AttemptNotes) → records ≡ [] → AreNotes plan [] notes → IsNoted plan (chronological records) notes 0
fresh-noted plan records notes none are = subst (λ (l : List Record). IsNoted plan (chronological l) notes 0) (sym none) (record {
  are_notes = are;
  failed_is = sym (abort_free (count_of plan));
})
  where
    unstuck : (node : ℕ) → is_in_error plan [] node ≡ false
    unstuck node = go (node_at plan node).done
      where
        go : (d : Bool) → (not (d || is_good_after (node_at plan node).course []) && is_none (if d then None else key_at node (next_after (node_at plan node).course []))) ≡ false
        go true = refl
        go false =
            (λ j. not (is_good_after (node_at plan node).course []) && (none-at node (next_after (node_at plan node).course []) ∙ nil-next (node_at plan node).course) j)
            ∙ none-and (not (is_good_after (node_at plan node).course []))

    abort_free : (n : ℕ) → sum_below (λ node. if is_in_error plan [] node then 1 else 0) n ≡ 0
    abort_free zero = refl
    abort_free (suc n) = (λ j. (if unstuck n j then 1 else 0) + abort_free n j)

-- what is noted when a record is added
pub noted-added : (plan : Plan) (past now : List Record) (entry : Record) (runs runs' : List NodeProgress) (aborted aborted' : Bool) (jobs jobs' failed failed' : ℕ) (notes notes' : List AttemptNotes)
    → IsNoted plan past notes failed → Shows plan past runs aborted jobs → may_follow plan past entry ≡ true → now ≡ entry ∷ past → Shows plan now runs' aborted' jobs'
    → notes' ≡ notes_after notes entry → failed' ≡ failed_after plan runs' failed entry → IsNoted plan now notes' failed'
noted-added plan past now entry runs runs' aborted aborted' jobs jobs' failed failed' notes notes' is shows may n shown e f =
    subst (λ (l : List Record). IsNoted plan l notes' failed') (sym n) (record {
      are_notes = subst (AreNotes plan (entry ∷ past)) (sym e) (notes-next plan past shows.lawful notes is.are_notes entry may);
      failed_is =
          f ∙ ap (λ (k : ℕ). failed_after plan runs' k entry) is.failed_is
          ∙ failed-next plan past runs runs' aborted aborted' jobs jobs' shows entry may (subst (λ (l : List Record). Shows plan l runs' aborted' jobs') n shown);
    })

pub failed-room : (plan : Plan) (past : List Record) (entry : Record) (runs runs' : List NodeProgress) (aborted aborted' : Bool) (jobs jobs' failed : ℕ) (notes : List AttemptNotes)
    → IsNoted plan past notes failed → Shows plan past runs aborted jobs → may_follow plan past entry ≡ true → Shows plan (entry ∷ past) runs' aborted' jobs'
    → failed_after plan runs' failed entry ≤ count_of plan
failed-room plan past entry runs runs' aborted aborted' jobs jobs' failed notes is shows may shown =
    let e = ap (λ (k : ℕ). failed_after plan runs' k entry) is.failed_is ∙ failed-next plan past runs runs' aborted aborted' jobs jobs' shows entry may shown in
    let few = failed-few plan (entry ∷ past) in
    omega (arith, e, few)

-- the facts of an outstanding phase are noted
pub facts-noted : (plan : Plan) (past : List Record) (notes : List AttemptNotes) (failed : ℕ) → is_lawful plan past ≡ true → IsNoted plan past notes failed
    → (key : Key) → is_among key (outstanding plan past) ≡ true → (own : AttemptNotes) → own ≡ notes_at notes key.node → (aborted : Bool) → aborted ≡ is_aborted plan past
    → noted_facts (node_at plan key.node).course own aborted failed ≡ facts_in plan past key
facts-noted plan past notes failed lawful is key among own own_is aborted aborted_is =
    (λ j. record {
      launch = (noted j).launch;
      job_launch = (noted j).job_launch;
      job_value = job_value_of (node_at plan key.node).course (unwrap_or (noted j).pre (Exit 0)) (unwrap_or (noted j).job (Exit 0));
      pre_value = pre_value_of (node_at plan key.node).course (unwrap_or (noted j).pre (Exit 0));
      dag_status = if aborted_is j then 3 else if is.failed_is j == 0 then 0 else 2;
      failed = is.failed_is j;
    })
    ∙ (λ j. record {
      launch = newest.1 j;
      job_launch = newest_launch past (phase_key key.node (newest.0 j) Job);
      job_value = job_value_of (node_at plan key.node).course (unwrap_or (first_ended past (phase_key key.node (newest.0 j) Pre)) (Exit 0))
          (unwrap_or (first_ended past (phase_key key.node (newest.0 j) Job)) (Exit 0));
      pre_value = pre_value_of (node_at plan key.node).course (unwrap_or (first_ended past (phase_key key.node (newest.0 j) Pre)) (Exit 0));
      dag_status = dag_status_in plan past;
      failed = failed_in plan past;
    })
    ∙ (λ j. record {
      launch = newest_launch past key;
      job_launch = newest_launch past (phase_key key.node key.attempt Job);
      job_value = job_value_of (node_at plan key.node).course
          (first-outcome past (phase_key key.node key.attempt Pre) (first_ended past (phase_key key.node key.attempt Pre)) refl j)
          (first-outcome past (phase_key key.node key.attempt Job) (first_ended past (phase_key key.node key.attempt Job)) refl j);
      pre_value = pre_value_of (node_at plan key.node).course (first-outcome past (phase_key key.node key.attempt Pre) (first_ended past (phase_key key.node key.attempt Pre)) refl j);
      dag_status = dag_status_in plan past;
      failed = failed_in plan past;
    })
  where
    noted : own ≡ notes_of past key.node
    noted = own_is ∙ is.are_notes.each key.node (let w = among-within plan past key lawful among in omega (arith, w))

    newest : IsNewest past key
    newest = each_among (IsNewest past) key (outstanding plan past) (outstanding-newest plan past lawful) among

-- notes are of as many nodes as before
pub notes-many : (notes : List AttemptNotes) (entry : Record) → length (notes_after notes entry) ≡ length notes
notes-many notes Life = refl
notes-many notes (Launch key number) = length-set notes key.node (with_launch (notes_at notes key.node) key number)
notes-many notes (End key outcome) = length-set notes key.node (with_phase_outcome (notes_at notes key.node) key.phase outcome)
notes-many notes (Finish status) = refl

-- a run that is aborted stays so
pub aborted-stays : (plan : Plan) (past : List Record) (runs : List NodeProgress) (aborted : Bool) (jobs : ℕ) → Shows plan past runs aborted jobs
    → (key : Key) (outcome : Outcome) → may_follow plan past (End key outcome) ≡ true → is_aborted plan (End key outcome ∷ past) ≡ false → is_aborted plan past ≡ false
aborted-stays plan past runs aborted jobs s key outcome may abort_free =
    let after = shows-after plan past runs aborted jobs s (End key outcome) may in
    let takes = shows-takes plan past runs aborted jobs s (End key outcome) may in
    let one = one-abort plan runs key.node (ended_with (run_at runs key.node) outcome) (let w = takes.0 in let m = s.many in omega (arith, w, m)) takes.2 in
    sym s.aborted_is ∙ flag-shown plan past runs aborted jobs s ∙ left (aborted_in plan runs) _ (sym one ∙ after.aborted_is ∙ abort_free)
  where
    left : (a b : Bool) → (a || b) ≡ false → a ≡ false
    left true b h = absurd (false≢true (sym h))
    left false b h = refl
