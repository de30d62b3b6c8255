-- What a finished run shows of each node.
use Rattle.std.proofs.Common.{◌≡◌, ℕ, zero, suc, ◌<◌, inl, inr, Bool, true, false, not, ◌&&◌, ◌||◌, List, [], ◌∷◌, ◌==◌, Option, Some, None, is_some, is_none, nat_lt, eq-eqb, refl, sym, ap, ◌∙◌, arith, lt-ltb, eqb-true, if◌then◌else◌}
use Rattle.std.proofs.lemmas.Bool.{eqb-false, and_parts, and_from, false≢true, not-true, ltb-true}
use mathlib.Core.Path.{fun_ext}
use Rattle.std.specs.List.{list_all, Contains}
use Rattle.node_machine.specs.declared.Phase.{Phase}
use Rattle.node_machine.specs.declared.Outcome.{Outcome}
use Rattle.node_machine.specs.declared.Key.{Key}
use Rattle.node_machine.specs.declared.Course.{Course}
use Rattle.node_machine.specs.Story.{Table, story, newest_attempt, is_good, attempts_after, next_after, is_good_after, value_after, attempts_ended_after}
use Rattle.node_machine.proofs.Beginnings.{Fits, whole-good, whole-phases, whole-count, whole-value, nil-next, nil-good, nil-count, nil-value}
use Rattle.node_machine.specs.declared.Record.{Record}
use Rattle.node_machine.specs.declared.Record.TheVariants.{Life, Launch, End, Finish}
use Rattle.node_machine.specs.declared.State.TheVariants.{Done, Error, NotRun}
use Rattle.run_plan.specs.Plan.{Plan, node_at, count_of, all_below, IsRankedBy}
use Rattle.sched_core.specs.Run.{table_of, history, key_at, next, is_done, is_in_error, outstanding, is_aborted, may_follow, is_lawful, is_finished, may_launch, is_ready, is_final_ready, is_free, is_nothing, is_among}
use Rattle.sched_core.specs.Fate.{Fate, is_done_state, without_attempts, fate_by_story, fate_by, final_fate, AreFates, shown}
use Rattle.std.specs.Prelude.{nat_le}
use Rattle.sched_core.specs.Core.{is_running, has_key_of}
use Rattle.sched_core.proofs.Sweeps.{all_below-from}
use Rattle.sched_core.proofs.Tests.{all-at, all-from}
use Rattle.sched_core.proofs.Sound.{Sound, sound, ParentsDone}

fate-eq : (a b : Fate) → a.state ≡ b.state → a.history ≡ b.history → a.attempts ≡ b.attempts → a.value ≡ b.value → a ≡ b
fate-eq a b p q n r = λ j. record { state = p j; history = q j; attempts = n j; value = r j }

pub all_below-at : (test : ℕ → Bool) (n : ℕ) → all_below test n ≡ true → (k : ℕ) → k < n → test k ≡ true
all_below-at test zero h k lt = absurd (omega arith)
all_below-at test (suc n) h k lt = go (k == n) refl (λ less. all_below-at test n (and_parts _ _ h).1 k less)
  where
    go : (b : Bool) → (k == n) ≡ b → (k < n → test k ≡ true) → test k ≡ true
    go true e below = ap test (eqb-true k n e) ∙ (and_parts _ _ h).0
    go false e below = below (let ne = eqb-false k n e in omega arith)

-- a run in which nothing is outstanding and no phase of an ordinary node may be launched
record Settled (plan : Plan) (past : List Record) : Type 0 where
  nothing : outstanding plan past ≡ []
  unready : (node : ℕ) → node < count_of plan → is_ready plan past node ≡ false
  abort_free : is_aborted plan past ≡ false

module _ (plan : Plan) (past : List Record) where
  pub state-done : (node : ℕ) → is_done_state (shown plan past node).state ≡ is_done plan past node
  state-done node = elim (is_done plan past node) as (λ b. is_done_state (if b then Done else if is_none (next plan past node) then Error else NotRun) ≡ b) [
    | true ↦ refl
    | false ↦ elim (is_none (next plan past node)) as (λ b. is_done_state (if b then Error else NotRun) ≡ false) [ true ↦ refl | false ↦ refl ]
  ]

  parents-done : (node : ℕ) → list_all (λ parent. is_done_state (shown plan past parent).state) (node_at plan node).parents ≡ list_all (is_done plan past) (node_at plan node).parents
  parents-done node = ap (λ test. list_all test (node_at plan node).parents) (fun_ext state-done)

none-at : (node : ℕ) (o : Option (ℕ × Phase)) → is_none (key_at node o) ≡ is_none o
none-at node None = refl
none-at node (Some p) = refl

none-from : (node : ℕ) (o : Option (ℕ × Phase)) → key_at node o ≡ None → o ≡ None
none-from node None e = refl
none-from node (Some p) e = cc

module _ (plan : Plan) (past : List Record) (s : Sound plan past) (node : ℕ) where
  abbrev course : Course
  course = (node_at plan node).course

  done-at_start : (node_at plan node).done ≡ true → shown plan past node ≡ without_attempts Done
  done-at_start h =
      fate-eq (shown plan past node) (without_attempts Done)
      (λ j. if (h j || is_good_after course (history past node)) then Done else if is_none (next plan past node) then Error else NotRun)
      (s.idle node h)
      (ap (attempts_ended_after course) (s.idle node h) ∙ nil-count course)
      (ap (value_after course) (s.idle node h) ∙ nil-value course)

  not_begun : (node_at plan node).done ≡ false → history past node ≡ [] → shown plan past node ≡ without_attempts NotRun
  not_begun h empty =
      fate-eq (shown plan past node) (without_attempts NotRun)
      (λ j. if (h j || good j) then Done else if some j then Error else NotRun)
      empty
      (ap (attempts_ended_after course) empty ∙ nil-count course)
      (ap (value_after course) empty ∙ nil-value course)
    where
      good : is_good_after course (history past node) ≡ false
      good = ap (is_good_after course) empty ∙ nil-good course

      some : is_none (next plan past node) ≡ false
      some = (λ j. is_none (if h j then None else key_at node (next_after course (empty j)))) ∙ none-at node (next_after course []) ∙ nil-next course

  whole : (column : ℕ → Phase → Outcome) → Fits course (history past node) column
      → (node_at plan node).done ≡ false → next plan past node ≡ None → shown plan past node ≡ fate_by_story (story course column)
  whole column g h none =
      fate-eq (shown plan past node) (fate_by_story (story course column))
      (λ j. if (h j || whole-good course (history past node) (s.fits node) over column g j) then Done else if is_none (none j) then Error else NotRun)
      (whole-phases course (history past node) (s.fits node) over column g)
      (whole-count course (history past node) (s.fits node) over column g)
      (whole-value course (history past node) (s.fits node) over column g)
    where
      over : next_after course (history past node) ≡ None
      over = none-from node (next_after course (history past node)) ((λ j. if sym h j then None else key_at node (next_after course (history past node))) ∙ none)

  module _ (q : Settled plan past) (lt : node < count_of plan) where
    no_next : ParentsDone plan past node → next plan past node ≡ None
    unfolding is_ready
    no_next ready = go (next plan past node) refl
      where
        free : is_free plan past (next plan past node) ≡ false
        free = (λ j. (not (sym q.abort_free j) && sym ready j) && is_free plan past (next plan past node)) ∙ q.unready node lt

        go : (o : Option Key) → next plan past node ≡ o → next plan past node ≡ None
        go None e = e
        go (Some key) e =
            absurd (false≢true (sym free ∙ ap (is_free plan past) e ∙ ap (λ keys. not (is_among key keys)) q.nothing))

    settled-fate : (table : Table) → Fits (node_at plan node).course (history past node) (table node)
        → shown plan past node ≡ fate_by plan table (shown plan past) node
    settled-fate table f = go (node_at plan node).done refl (list_all (is_done plan past) (node_at plan node).parents) refl
      where
        told : Fate
        told = fate_by_story (story course (table node))

        go : (b : Bool) → (node_at plan node).done ≡ b → (c : Bool) → list_all (is_done plan past) (node_at plan node).parents ≡ c
            → shown plan past node ≡ (if (node_at plan node).done then without_attempts Done
            else if list_all (λ parent. is_done_state (shown plan past parent).state) (node_at plan node).parents then told else without_attempts NotRun)
        go true h c e = done-at_start h ∙ (λ j. if sym h j then without_attempts Done else if list_all (λ parent. is_done_state (shown plan past parent).state) (node_at plan node).parents then told else without_attempts NotRun)
        go false h true e = whole (table node) f h (no_next e) ∙ (λ j. if sym h j then without_attempts Done else if sym (parents-done plan past node ∙ e) j then told else without_attempts NotRun)
        go false h false e =
            elim (s.begun node lt) [
              | inl empty ↦ not_begun h empty ∙ (λ j. if sym h j then without_attempts Done else if sym (parents-done plan past node ∙ e) j then told else without_attempts NotRun)
              | inr ready ↦ absurd (false≢true (sym e ∙ ready))
            ]

may-launch : (plan : Plan) (past : List Record) (node : ℕ) → node < count_of plan → may_launch plan past node ≡ is_ready plan past node
unfolding may_launch
may-launch plan past node lt = λ j. if lt-ltb node (count_of plan) lt j then is_ready plan past node else (node == count_of plan) && is_final_ready plan past

settled : (plan : Plan) (past : List Record) (status : ℕ) → may_follow plan past (Finish status) ≡ true → is_aborted plan past ≡ false → Settled plan past
unfolding may_follow
settled plan past status h abort_free =
    let p : (_ ≡ true) × (all_below (λ n. not (may_launch plan past n)) (suc (count_of plan)) ≡ true) = and_parts _ _ (and_parts _ _ h).0 in
    let q = and_parts _ (is_nothing (outstanding plan past)) p.0 in
    record {
      nothing = empty (outstanding plan past) q.1;
      unready = λ node lt. idle node lt (all_below-at (λ n. not (may_launch plan past n)) (suc (count_of plan)) p.1 node (omega arith));
      abort_free = abort_free;
    }
  where
    empty : (keys : List Key) → is_nothing keys ≡ true → keys ≡ []
    empty [] e = refl
    empty (key ∷ keys) e = absurd (false≢true e)

    idle : (node : ℕ) → node < count_of plan → not (may_launch plan past node) ≡ true → is_ready plan past node ≡ false
    idle node lt e = sym (may-launch plan past node lt) ∙ not-true _ e

-- Finish changes nothing that is shown
aborted-silent : (plan : Plan) (past : List Record) (status : ℕ) → is_aborted plan (Finish status ∷ past) ≡ is_aborted plan past
unfolding is_aborted
aborted-silent plan past status = refl

pub finished-fates : (plan : Plan) (records : List Record) (table : Table) → is_finished plan records ≡ true → is_aborted plan records ≡ false
    → ((node : ℕ) → Fits (node_at plan node).course (history records node) (table node))
    → AreFates plan table (shown plan records)
finished-fates plan [] table h abort_free f node lt = absurd (false≢true h)
finished-fates plan (Life ∷ past) table h abort_free f node lt = absurd (false≢true h)
finished-fates plan (Launch key number ∷ past) table h abort_free f node lt = absurd (false≢true h)
finished-fates plan (End key outcome ∷ past) table h abort_free f node lt = absurd (false≢true h)
finished-fates plan (Finish status ∷ past) table h abort_free f node lt =
    let p = and_parts _ _ h in
    let q = settled plan past status p.1 (sym (aborted-silent plan past status) ∙ abort_free) in
    settled-fate plan past (sound plan past p.0) node q lt table (f node)

pub lawful_part : (plan : Plan) (records : List Record) → is_finished plan records ≡ true → is_lawful plan records ≡ true
lawful_part plan records h = (and_parts _ _ h).1

-- the fates by the list's own table
pub own-fates : (plan : Plan) (records : List Record) → is_finished plan records ≡ true → is_aborted plan records ≡ false
    → AreFates plan (table_of records) (shown plan records)
own-fates plan records h abort_free = finished-fates plan records (table_of records) h abort_free (sound plan records (lawful_part plan records h)).fits

-- In a finished run FINAL has come to its end, with abort or without.
nothing-left : (plan : Plan) (past : List Record) (status : ℕ) → may_follow plan past (Finish status) ≡ true
    → (outstanding plan past ≡ []) × ((node : ℕ) → node < suc (count_of plan) → may_launch plan past node ≡ false)
unfolding may_follow
nothing-left plan past status h =
    let p : (_ ≡ true) × (all_below (λ n. not (may_launch plan past n)) (suc (count_of plan)) ≡ true) = and_parts _ _ (and_parts _ _ h).0 in
    let q = and_parts _ (is_nothing (outstanding plan past)) p.0 in
    (empty (outstanding plan past) q.1, λ node lt. not-true _ (all_below-at (λ n. not (may_launch plan past n)) (suc (count_of plan)) p.1 node lt))
  where
    empty : (keys : List Key) → is_nothing keys ≡ true → keys ≡ []
    empty [] e = refl
    empty (key ∷ keys) e = absurd (false≢true e)

may-launch-final : (plan : Plan) (past : List Record) → may_launch plan past (count_of plan) ≡ is_final_ready plan past
unfolding may_launch
may-launch-final plan past = go (nat_lt (count_of plan) (count_of plan)) refl
  where
    go : (b : Bool) → nat_lt (count_of plan) (count_of plan) ≡ b
        → (if nat_lt (count_of plan) (count_of plan) then is_ready plan past (count_of plan) else (count_of plan == count_of plan) && is_final_ready plan past) ≡ is_final_ready plan past
    go true e = let bad = ltb-true (count_of plan) (count_of plan) e in absurd (omega arith)
    go false e =
        (λ j. if e j then is_ready plan past (count_of plan) else (count_of plan == count_of plan) && is_final_ready plan past)
        ∙ (λ j. eq-eqb (count_of plan) (count_of plan) refl j && is_final_ready plan past)

final-over : (plan : Plan) (past : List Record) (status : ℕ) → may_follow plan past (Finish status) ≡ true → is_some plan.final_node ≡ true
    → next plan past (count_of plan) ≡ None
unfolding is_final_ready
final-over plan past status h some = go (next plan past (count_of plan)) refl
  where
    left : (outstanding plan past ≡ []) × ((node : ℕ) → node < suc (count_of plan) → may_launch plan past node ≡ false)
    left = nothing-left plan past status h

    idle : all_below (λ node. not (is_ready plan past node)) (count_of plan) ≡ true
    idle = all_below-from (λ node. not (is_ready plan past node)) (count_of plan)
        (λ node lt. ap not (sym (may-launch plan past node lt) ∙ left.1 node (omega arith)))

    turn : (b : Bool) → (b || all_below (λ node. not (is_ready plan past node)) (count_of plan)) ≡ true
    turn true = refl
    turn false = idle

    unready : is_final_ready plan past ≡ false
    unready = sym (may-launch-final plan past) ∙ left.1 (count_of plan) (omega arith)

    go : (o : Option Key) → next plan past (count_of plan) ≡ o → next plan past (count_of plan) ≡ None
    go None e = e
    go (Some key) e =
        let free : is_free plan past (next plan past (count_of plan)) ≡ true = ap (is_free plan past) e ∙ ap (λ (keys : List Key). not (is_among key keys)) left.0 in
        let ready : is_final_ready plan past ≡ true =
        and_from _ _ (and_from _ _ (and_from _ _ some free) (ap (list_all (λ (k : Key). nat_le (count_of plan) k.node)) left.0)) (turn (is_aborted plan past)) in
        absurd (false≢true (sym unready ∙ ready))

pub finished-final : (plan : Plan) (records : List Record) (table : Table) → is_finished plan records ≡ true → is_some plan.final_node ≡ true
    → ((node : ℕ) → Fits (node_at plan node).course (history records node) (table node))
    → shown plan records (count_of plan) ≡ final_fate plan table
finished-final plan [] table h some f = absurd (false≢true h)
finished-final plan (Life ∷ past) table h some f = absurd (false≢true h)
finished-final plan (Launch key number ∷ past) table h some f = absurd (false≢true h)
finished-final plan (End key outcome ∷ past) table h some f = absurd (false≢true h)
finished-final plan (Finish status ∷ past) table h some f = go (node_at plan (count_of plan)).done refl
  where
    p : (is_lawful plan past ≡ true) × (may_follow plan past (Finish status) ≡ true)
    p = and_parts (is_lawful plan past) (may_follow plan past (Finish status)) h

    go : (b : Bool) → (node_at plan (count_of plan)).done ≡ b → shown plan past (count_of plan) ≡ final_fate plan table
    go true e =
        done-at_start plan past (sound plan past p.0) (count_of plan) e
        ∙ (λ j. if sym e j then without_attempts Done else fate_by_story (story (node_at plan (count_of plan)).course (table (count_of plan))))
    go false e =
        whole plan past (sound plan past p.0) (count_of plan) (table (count_of plan)) (f (count_of plan)) e (final-over plan past status p.1 some)
        ∙ (λ j. if sym e j then without_attempts Done else fate_by_story (story (node_at plan (count_of plan)).course (table (count_of plan))))

-- no phase of FINAL is to come
pub final-ended : (plan : Plan) (records : List Record) → is_finished plan records ≡ true → is_some plan.final_node ≡ true → next plan records (count_of plan) ≡ None
final-ended plan [] h some = absurd (false≢true h)
final-ended plan (Life ∷ past) h some = absurd (false≢true h)
final-ended plan (Launch key number ∷ past) h some = absurd (false≢true h)
final-ended plan (End key outcome ∷ past) h some = absurd (false≢true h)
final-ended plan (Finish status ∷ past) h some = final-over plan past status (and_parts (is_lawful plan past) (may_follow plan past (Finish status)) h).1 some

-- so in a finished run FINAL is done or in error
pub final-error : (plan : Plan) (records : List Record) → is_finished plan records ≡ true → is_some plan.final_node ≡ true
    → is_in_error plan records (count_of plan) ≡ not (is_done plan records (count_of plan))
final-error plan records finished some =
    (λ j. not (is_done plan records (count_of plan)) && is_none (final-ended plan records finished some j)) ∙ and-true (not (is_done plan records (count_of plan)))
  where
    and-true : (b : Bool) → (b && true) ≡ b
    and-true true = refl
    and-true false = refl

-- in a finished run without abort a node whose next phase is to come waits for its parents
pub finished-waits : (plan : Plan) (records : List Record) → is_finished plan records ≡ true → is_aborted plan records ≡ false → (node : ℕ) → node < count_of plan
    → (key : Key) → next plan records node ≡ Some key → (is_running plan records node ≡ false) × (list_all (is_done plan records) (node_at plan node).parents ≡ false)
finished-waits plan [] h abort_free node lt key e = absurd (false≢true h)
finished-waits plan (Life ∷ past) h abort_free node lt key e = absurd (false≢true h)
finished-waits plan (Launch k number ∷ past) h abort_free node lt key e = absurd (false≢true h)
finished-waits plan (End k outcome ∷ past) h abort_free node lt key e = absurd (false≢true h)
finished-waits plan (Finish status ∷ past) h abort_free node lt key e =
    let p = and_parts (is_lawful plan past) (may_follow plan past (Finish status)) h in
    let q = settled plan past status p.1 (sym (aborted-silent plan past status) ∙ abort_free) in (
      ap (has_key_of node) q.nothing,
      go q p.0 (list_all (is_done plan past) (node_at plan node).parents) refl,
    )
  where
    go : Settled plan past → is_lawful plan past ≡ true → (b : Bool) → list_all (is_done plan past) (node_at plan node).parents ≡ b → list_all (is_done plan past) (node_at plan node).parents ≡ false
    go q lawful false d = d
    go q lawful true d = let bad : None ≡ Some key = sym (no_next plan past (sound plan past lawful) node q lt d) ∙ e in absurd cc

none-is : (o : Option (ℕ × Phase)) → is_none o ≡ true → o ≡ None
none-is None e = refl
none-is (Some p) e = absurd (false≢true e)

-- a node that is done in a lawful list has the fate Done by any table that the endings have
module _ (plan : Plan) (records : List Record) (lawful : is_lawful plan records ≡ true) (table : Table)
    (fit : (node : ℕ) → Fits (node_at plan node).course (history records node) (table node))
    (rank : ℕ → ℕ) (ranked : IsRankedBy rank plan) (fates : ℕ → Fate) (are : AreFates plan table fates) where
  ended-well : (node : ℕ) → is_good_after (node_at plan node).course (history records node) ≡ true → is_good (newest_attempt (story (node_at plan node).course (table node))) ≡ true
  unfolding is_good_after
  ended-well node good =
      let over = none-is _ (and_parts (is_none (next_after (node_at plan node).course (history records node))) (is_good (newest_attempt (attempts_after (node_at plan node).course (history records node)))) good).0 in
      sym (whole-good (node_at plan node).course (history records node) ((sound plan records lawful).fits node) over (table node) (fit node)) ∙ good

  done-below : (bound node : ℕ) → rank node < bound → node < count_of plan → is_done plan records node ≡ true → is_done_state (fates node).state ≡ true
  done-below zero node low lt done = absurd (omega arith)
  done-below (suc bound) node low lt done =
      ap (λ (f : Fate). is_done_state f.state) (are node lt)
      ∙ go (node_at plan node).done refl
      (λ ready. all-from (λ parent. is_done_state (fates parent).state) (node_at plan node).parents (λ parent c.
      let r = ranked node lt parent c in
      let q : rank parent < rank node = r.1 in
      done-below bound parent (omega arith) r.0 (all-at (is_done plan records) (node_at plan node).parents ready parent c.0 c.1 c.2)))
    where
      s : Sound plan records
      s = sound plan records lawful

      go : (b : Bool) → (node_at plan node).done ≡ b
          → (ParentsDone plan records node → list_all (λ parent. is_done_state (fates parent).state) (node_at plan node).parents ≡ true)
          → is_done_state (fate_by plan table fates node).state ≡ true
      go true h tests = λ j. is_done_state (if h j then without_attempts Done else if list_all (λ parent. is_done_state (fates parent).state) (node_at plan node).parents then fate_by_story (story (node_at plan node).course (table node)) else without_attempts NotRun).state
      go false h tests =
          elim (s.begun node lt) [
            | inl empty ↦ absurd (false≢true (sym (ap (λ (f : Fate). is_done_state f.state) (not_begun plan records s node h empty)) ∙ state-done plan records node ∙ done))
            | inr ready ↦
                (λ j. is_done_state (if h j then without_attempts Done else if tests ready j then fate_by_story (story (node_at plan node).course (table node)) else without_attempts NotRun).state)
                ∙ ap (λ good. is_done_state (if good then Done else Error)) (ended-well node ((λ j. sym h j || is_good_after (node_at plan node).course (history records node)) ∙ done))
          ]

  -- so a node has begun only where the fate of each parent is Done
  pub begun-fates : (node : ℕ) → node < count_of plan → (history records node ≡ [] → ⊥) → (parent : ℕ) → Contains (node_at plan node).parents parent → is_done_state (fates parent).state ≡ true
  begun-fates node lt begun parent c =
      elim ((sound plan records lawful).begun node lt) [
        | inl empty ↦ absurd (begun empty)
        | inr ready ↦ done-below (suc (rank parent)) parent (omega arith) (ranked node lt parent c).0 (all-at (is_done plan records) (node_at plan node).parents ready parent c.0 c.1 c.2)
      ]
