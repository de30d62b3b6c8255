-- What may be started once some phases are launched.
use Rattle.std.proofs.Common.{nat_lt, lt-ltb, ◌≡◌, ℕ, suc, ◌+◌, ◌<◌, ◌≤◌, Bool, true, false, not, ◌&&◌, ◌||◌, List, [], ◌∷◌, ◌++◌, length, get_or, take, drop, Option, Some, None, refl, sym, ap, ◌∙◌, arith, length-take, ◌==◌, eq-eqb, if◌then◌else◌}
use Rattle.std.specs.Prelude.{nat_le, slice_index}
use Rattle.std.specs.List.{list_all}
use Rattle.std.proofs.lemmas.Bool.{and_parts, and_from, false≢true, false_from_ne_true, ltb-true, leb-true, not-true}
use Rattle.std.proofs.lemmas.List.{take_more, drop_more}
use Rattle.node_machine.specs.declared.Key.{Key}
use Rattle.node_machine.specs.declared.Phase.{Phase}
use Rattle.node_machine.specs.declared.Phase.TheVariants.{Pre, Job, Post}
use Rattle.node_machine.specs.declared.Record.{Record}
use Rattle.node_machine.specs.declared.Record.TheVariants.{Launch}
use Rattle.throttles.specs.declared.Limits.{Limits}
use Rattle.throttles.specs.Throttled.{Throttled, Running, is_below, lets_phase, limit_of, of_kind, all_in, may_start, with_one, IsPlace}
use Rattle.throttles.proofs.Counts.{with-all, kind-more, category-more}
use Rattle.run_plan.specs.Plan.{Plan, node_at, count_of, all_below}
use Rattle.run_plan.specs.Planned.{IsPlanned}
use Rattle.sched_core.specs.declared.Choice.TheVariants as choices
use Rattle.sched_core.specs.Run.{next, is_next, is_open, may_follow, outstanding, is_among, is_same, is_free, is_done, is_aborted, is_ready, is_final_ready, may_launch, job_launches, launch_number}
use Rattle.sched_core.specs.Core.{jobs_after}
use Rattle.sched_core.specs.Choices.{launchable, if_let_in, startable, IsChoice}
use Rattle.sched_core.specs.Limits.{limits_of_categories, running_in, throttled_in, lets_in}
use Rattle.sched_core.specs.Ahead.{launch_of, launched, launches, may_launch_all, AreChosen, NothingToStart}
use Rattle.sched_core.specs.Round.{IsRound}
use Rattle.sched_core.proofs.Keys.{same-self, same-eq}
use Rattle.sched_core.proofs.Sound.{launch-held}
use Rattle.sched_core.proofs.Held.{launched-within}
use Rattle.sched_core.proofs.Finished.{all_below-at}
use Rattle.sched_core.proofs.Throttling.{counted, running-all, outstanding-few}
use Rattle.ready_queue.proofs.Edits.{by_lt}
use Rattle.node_machine.specs.Story.{phase_number}
use Rattle.sched_core.proofs.Moves.{launchable-next, jobs-few}
use Rattle.sched_core.proofs.Best.{startable-parts, startable-past, best-step, best-start}

-- lists of launches
pub launched-more : (past : List Record) (keys : List Key) (key : Key) → launched past (keys ++ key ∷ []) ≡ launch_of (launched past keys) key ∷ launched past keys
launched-more past [] key = refl
launched-more past (first ∷ keys) key = launched-more (launch_of past first ∷ past) keys key

pub chosen-more : (limits : Limits) (plan : Plan) (past : List Record) (keys : List Key) (key : Key) → AreChosen limits plan past keys
    → IsChoice limits plan (launched past keys) (choices.Start key) → AreChosen limits plan past (keys ++ key ∷ [])
chosen-more limits plan past [] key chosen is = (is, tt)
chosen-more limits plan past (first ∷ keys) key chosen is = (chosen.0, chosen-more limits plan (launch_of past first ∷ past) keys key chosen.1 is)

-- a phase that is not this one
abbrev pub unless_same : Key → Option Key → Option Key
unless_same key None = None
unless_same key (Some own) = if is_same own key then None else Some own

abbrev pub unless_among : List Key → Option Key → Option Key
unless_among [] own = own
unless_among (key ∷ keys) own = unless_among keys (unless_same key own)

none-among : (keys : List Key) → unless_among keys None ≡ None
none-among [] = refl
none-among (key ∷ keys) = none-among keys

pub some-among : (keys : List Key) (own : Key) → unless_among keys (Some own) ≡ (if is_among own keys then None else Some own)
some-among [] own = refl
some-among (key ∷ keys) own = go (is_same own key) (some-among keys own)
  where
    go : (b : Bool) → unless_among keys (Some own) ≡ (if is_among own keys then None else Some own)
        → unless_among keys (if b then None else Some own) ≡ (if b || is_among own keys then None else Some own)
    go true rest = none-among keys
    go false rest = rest

pick : (key own : Key) (a s x : Bool) → is_same own key ≡ s → (if a && not (s || x) then Some own else None) ≡ unless_same key (if a && not x then Some own else None)
pick key own false s x e = refl
pick key own true true true e = refl
pick key own true true false e = sym (λ j. if e j then None else Some own)
pick key own true false true e = refl
pick key own true false false e = sym (λ j. if e j then None else Some own)

abbrev nobody : Option Key
nobody = None

either-none : (b : Bool) → (if b then nobody else nobody) ≡ nobody
either-none true = refl
either-none false = refl

module _ (plan : Plan) where
  -- after a launch another ordinary phase may be launched as before
  pub launch-one : (past : List Record) (key : Key) (number node : ℕ) → node < count_of plan → launchable plan (Launch key number ∷ past) node ≡ unless_same key (launchable plan past node)
  unfolding may_launch is_ready is_aborted
  launch-one past key number node lt = go (next plan past node) refl
    where
      below : nat_lt node (count_of plan) ≡ true
      below = lt-ltb node (count_of plan) lt

      known : Bool
      known = not (is_aborted plan past) && list_all (is_done plan past) (node_at plan node).parents

      shape : List Record → Bool → Option Key → Option Key
      shape records b o = if (if b then known && is_free plan records o else (node == count_of plan) && is_final_ready plan records) then o else None

      go : (o : Option Key) → next plan past node ≡ o → shape (Launch key number ∷ past) (nat_lt node (count_of plan)) (next plan past node) ≡ unless_same key (shape past (nat_lt node (count_of plan)) (next plan past node))
      go None is =
          (λ j. shape (Launch key number ∷ past) (nat_lt node (count_of plan)) (is j)) ∙ either-none _
          ∙ sym (ap (unless_same key) ((λ j. shape past (nat_lt node (count_of plan)) (is j)) ∙ either-none _))
      go (Some own) is =
          (λ j. shape (Launch key number ∷ past) (below j) (is j))
          ∙ pick key own known (is_same own key) (is_among own (outstanding plan past)) refl
          ∙ sym (λ j. unless_same key (shape past (below j) (is j)))

  pub launch-all : (past : List Record) (keys : List Key) (node : ℕ) → node < count_of plan → launchable plan (launched past keys) node ≡ unless_among keys (launchable plan past node)
  launch-all past [] node lt = refl
  launch-all past (key ∷ keys) node lt =
      launch-all (launch_of past key ∷ past) keys node lt ∙ ap (unless_among keys) (launch-one past key (launch_number past key) node lt)

-- one more that runs lets in no more
fewer : (limit less more : ℕ) → less ≤ more → is_below limit more ≡ true → is_below limit less ≡ true
fewer limit less more le h = go (limit == 0) refl
  where
    go : (b : Bool) → (limit == 0) ≡ b → is_below limit less ≡ true
    go true e = λ j. e j || nat_lt less limit
    go false e =
        let lt : nat_lt more limit ≡ true = (λ j. sym e j || nat_lt more limit) ∙ h in
        let l = ltb-true more limit lt in
        (λ j. e j || nat_lt less limit) ∙ lt-ltb less limit (omega (arith, l, le))

lets-fewer : (limits : Limits) (categories : List ℕ) (r : Running) (phase : Phase) (category : Option ℕ) → IsPlace r.category_jobs category → (own : Phase) (its : Option ℕ)
    → lets_phase (record { limits = limits; categories = categories; running = with_one r phase category }) own its ≡ true
    → lets_phase (record { limits = limits; categories = categories; running = r }) own its ≡ true
lets-fewer limits categories r phase category placed Pre its h = refl
lets-fewer limits categories r phase category placed Post its h = refl
lets-fewer limits categories r phase category placed Job None h = refl
lets-fewer limits categories r phase category placed Job (Some place) h =
    fewer (slice_index categories place) (slice_index r.category_jobs place) (slice_index (with_one r phase category).category_jobs place) (category-more r phase category placed place) h

start-fewer : (limits : Limits) (categories : List ℕ) (r : Running) (phase : Phase) (category : Option ℕ) → IsPlace r.category_jobs category → (own : Phase) (its : Option ℕ)
    → may_start (record { limits = limits; categories = categories; running = with_one r phase category }) own its ≡ true
    → may_start (record { limits = limits; categories = categories; running = r }) own its ≡ true
start-fewer limits categories r phase category placed own its h =
    let p = and_parts (is_below limits.children (all_in (with_one r phase category)) && is_below (limit_of limits own) (of_kind own (with_one r phase category)))
    (lets_phase (record { limits = limits; categories = categories; running = with_one r phase category }) own its) h in
    let q = and_parts (is_below limits.children (all_in (with_one r phase category))) (is_below (limit_of limits own) (of_kind own (with_one r phase category))) p.0 in
    let all : all_in r ≤ all_in (with_one r phase category) = (let w = with-all r phase category placed in omega (arith, w)) in
    and_from _ _ (and_from _ _ (fewer limits.children (all_in r) (all_in (with_one r phase category)) all q.0)
    (fewer (limit_of limits own) (of_kind own r) (of_kind own (with_one r phase category)) (kind-more r phase category placed own) q.1))
    (lets-fewer limits categories r phase category placed own its p.1)

module _ (limits : Limits) (plan : Plan) (planned : IsPlanned plan) where
  lets-before : (keys : List Key) (key own : Key) → lets_in limits plan (key ∷ keys) own ≡ true → lets_in limits plan keys own ≡ true
  lets-before keys key own h =
      start-fewer limits (limits_of_categories plan) (running_in plan keys) key.phase (node_at plan key.node).category (counted plan planned keys key.node) own.phase (node_at plan own.node).category h

  -- what may not be started may not be started after a launch either
  pub still-none : (past : List Record) (key : Key) (number node : ℕ) → node < count_of plan → startable limits plan past node ≡ None → startable limits plan (Launch key number ∷ past) node ≡ None
  still-none past key number node lt none =
      ap (if_let_in limits plan (Launch key number ∷ past)) (launch-one plan past key number node lt)
      ∙ go (launchable plan past node) none
    where
      held : (own : Key) → (b : Bool) → lets_in limits plan (key ∷ outstanding plan past) own ≡ b → lets_in limits plan (outstanding plan past) own ≡ false → (if b then Some own else None) ≡ None
      held own false e f = refl
      held own true e f = absurd (false≢true (sym f ∙ lets-before (outstanding plan past) key own e))

      shut : (own : Key) (b : Bool) → lets_in limits plan (outstanding plan past) own ≡ b → (if b then Some own else None) ≡ None → lets_in limits plan (outstanding plan past) own ≡ false
      shut own false e f = e
      shut own true e f = absurd cc

      other : (own : Key) (b : Bool) → lets_in limits plan (outstanding plan past) own ≡ false → if_let_in limits plan (Launch key number ∷ past) (if b then None else Some own) ≡ None
      other own true f = refl
      other own false f = held own (lets_in limits plan (key ∷ outstanding plan past) own) refl f

      go : (o : Option Key) → if_let_in limits plan past o ≡ None → if_let_in limits plan (Launch key number ∷ past) (unless_same key o) ≡ None
      go None none = refl
      go (Some own) none = other own (is_same own key) (shut own (lets_in limits plan (outstanding plan past) own) refl none)

  -- a phase that was launched is not started again
  pub not-again : (past : List Record) (key : Key) (number : ℕ) → key.node < count_of plan → startable limits plan past key.node ≡ Some key → startable limits plan (Launch key number ∷ past) key.node ≡ None
  not-again past key number lt is =
      let may : launchable plan past key.node ≡ Some key = (startable-parts limits plan past key.node key is).0 in
      ap (if_let_in limits plan (Launch key number ∷ past))
      (launch-one plan past key number key.node lt ∙ ap (unless_same key) may ∙ (λ j. if same-self key j then None else Some key))

-- what may be started of an ordinary node once these are launched
module _ (limits : Limits) (plan : Plan) (past : List Record) (keys : List Key) (node : ℕ) (lt : node < count_of plan) where
  behind : (o : Option Key) → launchable plan past node ≡ o → startable limits plan (launched past keys) node ≡ if_let_in limits plan (launched past keys) (unless_among keys o)
  behind o is = ap (if_let_in limits plan (launched past keys)) (launch-all plan past keys node lt ∙ ap (unless_among keys) is)

  pub behind-none : launchable plan past node ≡ None → startable limits plan (launched past keys) node ≡ None
  behind-none is = behind None is ∙ ap (if_let_in limits plan (launched past keys)) (none-among keys)

  pub behind-among : (own : Key) → launchable plan past node ≡ Some own → is_among own keys ≡ true → startable limits plan (launched past keys) node ≡ None
  behind-among own is among =
      behind (Some own) is ∙ ap (if_let_in limits plan (launched past keys)) (some-among keys own ∙ (λ j. if among j then None else Some own))

  pub behind-held : (own : Key) → launchable plan past node ≡ Some own → is_among own keys ≡ false → (b : Bool) → lets_in limits plan (outstanding plan (launched past keys)) own ≡ b
      → startable limits plan (launched past keys) node ≡ (if b then Some own else None)
  behind-held own is among b lets =
      behind (Some own) is ∙ ap (if_let_in limits plan (launched past keys)) (some-among keys own ∙ (λ j. if among j then None else Some own))
      ∙ (λ j. if lets j then Some own else None)

-- while an ordinary phase may be launched, FINAL's may not
abort_free : (plan : Plan) (past : List Record) (node : ℕ) → is_ready plan past node ≡ true → is_aborted plan past ≡ false
unfolding is_ready
abort_free plan past node ready = not-true _ (and_parts _ _ (and_parts _ _ ready).0).0

final-turn : (plan : Plan) (past : List Record) → is_final_ready plan past ≡ true → (is_aborted plan past || all_below (λ node. not (is_ready plan past node)) (count_of plan)) ≡ true
unfolding is_final_ready
final-turn plan past h = (and_parts _ _ h).1

pub final-waits : (limits : Limits) (plan : Plan) (past : List Record) (node : ℕ) → node < count_of plan → is_ready plan past node ≡ true → startable limits plan past (count_of plan) ≡ None
unfolding may_launch
final-waits limits plan past node lt ready = go (startable limits plan past (count_of plan)) refl
  where
    turn : (a : Bool) → is_aborted plan past ≡ a → (a || all_below (λ n. not (is_ready plan past n)) (count_of plan)) ≡ true → ⊥
    turn true e h = false≢true (sym (abort_free plan past node ready) ∙ e)
    turn false e h = false≢true (sym (ap not ready) ∙ all_below-at (λ n. not (is_ready plan past n)) (count_of plan) h node lt)

    final : (b : Bool) → nat_lt (count_of plan) (count_of plan) ≡ b
        → (if b then is_ready plan past (count_of plan) else (count_of plan == count_of plan) && is_final_ready plan past) ≡ true → ⊥
    final true e h = let l = ltb-true (count_of plan) (count_of plan) e in absurd (omega (arith, l))
    final false e h = turn (is_aborted plan past) refl (final-turn plan past (and_parts (count_of plan == count_of plan) (is_final_ready plan past) h).1)

    go : (o : Option Key) → startable limits plan past (count_of plan) ≡ o → startable limits plan past (count_of plan) ≡ None
    go None e = e
    go (Some key) e =
        let may = (launchable-next plan past (count_of plan) key (startable-parts limits plan past (count_of plan) key e).0).0 in
        absurd (final (nat_lt (count_of plan) (count_of plan)) refl may)

-- no more is outstanding than was, and what is launched
pub launched-few : (plan : Plan) (past : List Record) (keys : List Key) → length (outstanding plan (launched past keys)) ≡ length keys + length (outstanding plan past)
launched-few plan past [] = omega arith
launched-few plan past (key ∷ keys) = let h = launched-few plan (launch_of past key ∷ past) keys in omega (arith, h)

-- and where an ordinary phase was launched, FINAL's may not be
pub busy : (limits : Limits) (plan : Plan) (past : List Record) → list_all (λ (key : Key). nat_le (count_of plan) key.node) (outstanding plan past) ≡ false → startable limits plan past (count_of plan) ≡ None
unfolding may_launch is_final_ready
busy limits plan past some = go (startable limits plan past (count_of plan)) refl
  where
    final : (b : Bool) → nat_lt (count_of plan) (count_of plan) ≡ b
        → (if b then is_ready plan past (count_of plan) else (count_of plan == count_of plan) && is_final_ready plan past) ≡ true → ⊥
    final true e h = let l = ltb-true (count_of plan) (count_of plan) e in absurd (omega (arith, l))
    final false e h =
        let ready = (and_parts (count_of plan == count_of plan) (is_final_ready plan past) h).1 in
        false≢true (sym some ∙ (and_parts _ _ (and_parts _ _ ready).0).1)

    go : (o : Option Key) → startable limits plan past (count_of plan) ≡ o → startable limits plan past (count_of plan) ≡ None
    go None e = e
    go (Some key) e =
        let may = (launchable-next plan past (count_of plan) key (startable-parts limits plan past (count_of plan) key e).0).0 in
        absurd (final (nat_lt (count_of plan) (count_of plan)) refl may)

ordinary-among : (plan : Plan) (past : List Record) (keys : List Key) → list_all (λ (key : Key). nat_le (count_of plan) key.node) (outstanding plan past) ≡ false
    → list_all (λ (key : Key). nat_le (count_of plan) key.node) (outstanding plan (launched past keys)) ≡ false
ordinary-among plan past [] some = some
ordinary-among plan past (key ∷ keys) some = ordinary-among plan (launch_of past key ∷ past) keys (either (nat_le (count_of plan) key.node) some)
  where
    either : (b : Bool) → list_all (λ (k : Key). nat_le (count_of plan) k.node) (outstanding plan past) ≡ false → (b && list_all (λ (k : Key). nat_le (count_of plan) k.node) (outstanding plan past)) ≡ false
    either true e = e
    either false e = refl

pub launched-busy : (limits : Limits) (plan : Plan) (past : List Record) (key : Key) (keys : List Key) → key.node < count_of plan → startable limits plan (launched past (key ∷ keys)) (count_of plan) ≡ None
launched-busy limits plan past key keys lt =
    busy limits plan (launched past (key ∷ keys))
    (ordinary-among plan (launch_of past key ∷ past) keys (λ j. low j && list_all (λ (k : Key). nat_le (count_of plan) k.node) (outstanding plan past)))
  where
    low : nat_le (count_of plan) key.node ≡ false
    low = false_from_ne_true _ (λ t. let le = leb-true (count_of plan) key.node t in absurd (omega (arith, le, lt)))

-- no phase of any node may be started
pub nothing-more : (limits : Limits) (plan : Plan) (past : List Record) → ((node : ℕ) → node < count_of plan → startable limits plan past node ≡ None) → startable limits plan past (count_of plan) ≡ None → NothingToStart limits plan past
nothing-more limits plan past ordinary final node =
    by_lt node (count_of plan) (ordinary node) (λ ge. by_lt (count_of plan) node (startable-past limits plan past node)
    (λ le. let e : node ≡ count_of plan = omega (arith, ge, le) in ap (startable limits plan past) e ∙ final))

-- one launch more is counted
pub count-room : (limits : Limits) (plan : Plan) → IsPlanned plan → (past : List Record) (keys : List Key) (throttled : Throttled) (records : ℕ) → throttled ≡ throttled_in limits plan (outstanding plan (launched past keys))
    → records ≡ length past → length keys + records + 1 < 18446744073709551616 → all_in throttled.running + 1 < 18446744073709551616
count-room limits plan planned past keys throttled records counts same small =
    let all : all_in throttled.running ≡ length (outstanding plan (launched past keys)) = ap (λ (t : Throttled). all_in t.running) counts ∙ running-all plan planned (outstanding plan (launched past keys)) in
    let few = launched-few plan past keys in
    let old = outstanding-few plan past in
    omega (arith, all, few, old, same, small)

-- a round of ordinary phases is all there is
pub busy-round : (limits : Limits) (plan : Plan) (past : List Record) (max : ℕ) (keys : List Key) → IsRound limits plan past max keys → 0 < length keys → length keys < max → NothingToStart limits plan (launched past keys)
busy-round limits plan past max [] round some fewer = absurd (omega (arith, some))
busy-round limits plan past max (key ∷ keys) round some fewer =
    nothing-more limits plan (launched past (key ∷ keys)) (round.all fewer)
    (launched-busy limits plan past key keys (round.ordinary 0 key (omega arith)))

-- no ordinary phase may be started, and FINAL's may not
pub idle-round : (limits : Limits) (plan : Plan) (past : List Record) (max : ℕ) (keys : List Key) → IsRound limits plan past max keys → length keys ≡ 0 → startable limits plan past (count_of plan) ≡ None → length keys < max
    → NothingToStart limits plan (launched past keys)
idle-round limits plan past max (key ∷ keys) round none final fewer = absurd (omega (arith, none))
idle-round limits plan past max [] round none final fewer = nothing-more limits plan past (round.all fewer) final

-- or it may
final-again : (limits : Limits) (plan : Plan) (past : List Record) (key : Key) (number : ℕ) → startable limits plan past (count_of plan) ≡ Some key → startable limits plan (Launch key number ∷ past) (count_of plan) ≡ None
unfolding may_launch is_final_ready is_aborted is_ready
final-again limits plan past key number is = go (startable limits plan (Launch key number ∷ past) (count_of plan)) refl
  where
    same : next plan past (count_of plan) ≡ Some key
    same = (launchable-next plan past (count_of plan) key (startable-parts limits plan past (count_of plan) key is).0).1

    taken : is_free plan (Launch key number ∷ past) (next plan past (count_of plan)) ≡ false
    taken = ap (is_free plan (Launch key number ∷ past)) same ∙ (λ j. not (same-self key j || is_among key (outstanding plan past)))

    final : (b : Bool) → nat_lt (count_of plan) (count_of plan) ≡ b
        → (if b then is_ready plan (Launch key number ∷ past) (count_of plan) else (count_of plan == count_of plan) && is_final_ready plan (Launch key number ∷ past)) ≡ true → ⊥
    final true e h = let l = ltb-true (count_of plan) (count_of plan) e in absurd (omega (arith, l))
    final false e h =
        let ready = (and_parts (count_of plan == count_of plan) (is_final_ready plan (Launch key number ∷ past)) h).1 in
        false≢true (sym taken ∙ (and_parts _ _ (and_parts _ _ (and_parts _ _ ready).0).0).1)

    go : (o : Option Key) → startable limits plan (Launch key number ∷ past) (count_of plan) ≡ o → startable limits plan (Launch key number ∷ past) (count_of plan) ≡ None
    go None e = e
    go (Some other) e =
        let may = (launchable-next plan (Launch key number ∷ past) (count_of plan) other (startable-parts limits plan (Launch key number ∷ past) (count_of plan) other e).0).0 in
        absurd (final (nat_lt (count_of plan) (count_of plan)) refl may)

module _ (limits : Limits) (plan : Plan) (planned : IsPlanned plan) (past : List Record) (max : ℕ) (round : IsRound limits plan past max []) (some : 0 < max) (key : Key) (is : startable limits plan past (count_of plan) ≡ Some key) where
  pub final-chosen : AreChosen limits plan past (key ∷ [])
  final-chosen = (best-start limits plan past key (best-step limits plan past (count_of plan) None (Some key) (round.all some) is), tt)

  pub final-last : NothingToStart limits plan (launched past (key ∷ []))
  final-last =
      nothing-more limits plan (launch_of past key ∷ past)
      (λ node lt. still-none limits plan planned past key (launch_number past key) node lt (round.all some node lt))
      (final-again limits plan past key (launch_number past key) is)

-- a phase may be launched where it is the one that may be
is-launchable : (b : Bool) (o : Option Key) (key : Key) → (b && is_next o key) ≡ is_next (if b then o else None) key
is-launchable true o key = refl
is-launchable false o key = refl

apart : (k key : Key) (o : Option Key) → is_next (unless_same k o) key ≡ (is_next o key && not (is_same key k))
apart k key None = refl
apart k key (Some own) = go (is_same own key) refl (is_same own k) refl
  where
    go : (a : Bool) → is_same own key ≡ a → (b : Bool) → is_same own k ≡ b → is_next (if b then None else Some own) key ≡ (is_same own key && not (is_same key k))
    go true e true f =
        let o : own ≡ key = same-eq own key e in
        sym (λ j. e j && not ((ap (λ (x : Key). is_same x k) (sym o) ∙ f) j))
    go true e false f =
        let o : own ≡ key = same-eq own key e in
        e ∙ sym (λ j. e j && not ((ap (λ (x : Key). is_same x k) (sym o) ∙ f) j))
    go false e true f = sym (λ j. e j && not (is_same key k))
    go false e false f = e ∙ sym (λ j. e j && not (is_same key k))

-- what may follow of a launch, in an open run
launch-shape : (plan : Plan) (past : List Record) (key : Key) → is_open past ≡ true → may_follow plan past (launch_of past key) ≡ is_next (launchable plan past key.node) key
unfolding may_follow
launch-shape plan past key going =
    (λ j. going j && may_launch plan past key.node && is_next (next plan past key.node) key && eq-eqb (launch_number past key) (launch_number past key) refl j)
    ∙ and-true (may_launch plan past key.node && is_next (next plan past key.node) key)
    ∙ is-launchable (may_launch plan past key.node) (next plan past key.node) key
  where
    and-true : (b : Bool) → (b && true) ≡ b
    and-true true = refl
    and-true false = refl

open-by : (plan : Plan) (past : List Record) (key : Key) → may_follow plan past (launch_of past key) ≡ true → is_open past ≡ true
unfolding may_follow
open-by plan past key h = (and_parts _ _ (and_parts _ _ (and_parts _ _ h).0).0).0

one-behind : (plan : Plan) (past : List Record) (first key : Key) → key.node < count_of plan → is_open past ≡ true
    → may_follow plan (launch_of past first ∷ past) (launch_of (launch_of past first ∷ past) key) ≡ (may_follow plan past (launch_of past key) && not (is_same key first))
one-behind plan past first key lt going =
    launch-shape plan (launch_of past first ∷ past) key refl
    ∙ ap (λ (o : Option Key). is_next o key) (launch-one plan past first (launch_number past first) key.node lt)
    ∙ apart first key (launchable plan past key.node)
    ∙ (λ j. sym (launch-shape plan past key going) j && not (is_same key first))

spread : (a s t : Bool) → ((a && not s) && not t) ≡ (a && not (s || t))
spread false s t = refl
spread true true t = refl
spread true false t = refl

-- an ordinary phase after launches
pub launch-behind : (plan : Plan) (past : List Record) (keys : List Key) (key : Key) → key.node < count_of plan → may_launch_all plan past keys ≡ true
    → may_follow plan (launched past keys) (launch_of (launched past keys) key) ≡ (may_follow plan past (launch_of past key) && not (is_among key keys))
launch-behind plan past [] key lt all = sym (and-true (may_follow plan past (launch_of past key)))
  where
    and-true : (b : Bool) → (b && true) ≡ b
    and-true true = refl
    and-true false = refl
launch-behind plan past (first ∷ keys) key lt all =
    let p = and_parts (may_follow plan past (launch_of past first)) (may_launch_all plan (launch_of past first ∷ past) keys) all in
    launch-behind plan (launch_of past first ∷ past) keys key lt p.1
    ∙ (λ j. one-behind plan past first key lt (open-by plan past first p.0) j && not (is_among key keys))
    ∙ spread (may_follow plan past (launch_of past key)) (is_same key first) (is_among key keys)

-- what is outstanding stays so
among-launched : (plan : Plan) (past : List Record) (keys : List Key) (key : Key) → is_among key (outstanding plan past) ≡ true → is_among key (outstanding plan (launched past keys)) ≡ true
among-launched plan past [] key among = among
among-launched plan past (first ∷ keys) key among = among-launched plan (launch_of past first ∷ past) keys key (either (is_same key first) among)
  where
    either : (b : Bool) → is_among key (outstanding plan past) ≡ true → (b || is_among key (outstanding plan past)) ≡ true
    either true e = refl
    either false e = e

next-launched : (plan : Plan) (past : List Record) (keys : List Key) (node : ℕ) → next plan (launched past keys) node ≡ next plan past node
next-launched plan past [] node = refl
next-launched plan past (first ∷ keys) node = next-launched plan (launch_of past first ∷ past) keys node

not_below : (a b : ℕ) → b ≤ a → nat_lt a b ≡ false
not_below a b le = false_from_ne_true _ (λ t. let l = ltb-true a b t in absurd (omega (arith, l, le)))

final-of : (plan : Plan) (past : List Record) (key : Key) (number : ℕ) → count_of plan ≤ key.node → may_follow plan past (Launch key number) ≡ true → is_final_ready plan past ≡ true
unfolding may_follow may_launch
final-of plan past key number high h =
    let may : may_launch plan past key.node ≡ true = (and_parts _ _ (and_parts _ _ (and_parts _ _ h).0).0).1 in
    (and_parts (key.node == count_of plan) (is_final_ready plan past)
    ((λ j. if sym (not_below key.node (count_of plan) high) j then is_ready plan past key.node else (key.node == count_of plan) && is_final_ready plan past) ∙ may)).1

final-alone : (plan : Plan) (past : List Record) → is_final_ready plan past ≡ true
    → (is_free plan past (next plan past (count_of plan)) ≡ true) × (list_all (λ (k : Key). nat_le (count_of plan) k.node) (outstanding plan past) ≡ true)
unfolding is_final_ready
final-alone plan past h = let p = and_parts _ _ (and_parts _ _ h).0 in ((and_parts _ _ p.0).1, p.1)

-- FINAL's phase is not launched after another
pub final-behind : (plan : Plan) (past : List Record) (first : Key) (keys : List Key) (key : Key) → count_of plan ≤ key.node → may_follow plan past (launch_of past first) ≡ true
    → may_follow plan (launched past (first ∷ keys)) (launch_of (launched past (first ∷ keys)) key) ≡ false
final-behind plan past first keys key high follows = false_from_ne_true _ (λ h. go h)
  where
    R : List Record
    R = launched past (first ∷ keys)

    low : first.node < count_of plan → nat_le (count_of plan) first.node ≡ false
    low lt = false_from_ne_true _ (λ t. let le = leb-true (count_of plan) first.node t in absurd (omega (arith, le, lt)))

    go : may_follow plan R (launch_of R key) ≡ true → ⊥
    go h =
        let q = final-alone plan R (final-of plan R key (launch_number R key) high h) in
        by_lt first.node (count_of plan)
        (λ lt. false≢true (sym (ordinary-among plan (launch_of past first ∷ past) keys (λ j. low lt j && list_all (λ (k : Key). nat_le (count_of plan) k.node) (outstanding plan past))) ∙ q.1))
        (λ ge.
        let held = launch-held plan past first (launch_number past first) follows in
        let at : first.node ≡ count_of plan = (let w = launched-within plan past first (launch_number past first) follows in omega (arith, w, ge)) in
        let is : next plan R (count_of plan) ≡ Some first = next-launched plan (launch_of past first ∷ past) keys (count_of plan) ∙ ap (next plan past) (sym at) ∙ held.is_next in
        let among : is_among first (outstanding plan R) ≡ true =
        among-launched plan (launch_of past first ∷ past) keys first (λ j. same-self first j || is_among first (outstanding plan past)) in
        false≢true (sym (ap not among) ∙ ap (is_free plan R) (sym is) ∙ q.0))

-- all of these, one by one
pub all-step : (plan : Plan) (past : List Record) (keys : List Key) (i : ℕ) (d : Key) → i < length keys → may_launch_all plan past keys ≡ may_launch_all plan (launched past (take i keys)) (drop i keys)
    → may_follow plan (launched past (take i keys)) (launch_of (launched past (take i keys)) (get_or keys i d)) ≡ true
    → may_launch_all plan past keys ≡ may_launch_all plan (launched past (take (i + 1) keys)) (drop (i + 1) keys)
all-step plan past keys i d inside so_far follows =
    let R = launched past (take i keys) in
    let key = get_or keys i d in
    so_far ∙ ap (may_launch_all plan R) (drop_more keys i d inside)
    ∙ (λ j. follows j && may_launch_all plan (launch_of R key ∷ R) (drop (i + 1) keys))
    ∙ sym (ap (λ (p : List Record). may_launch_all plan p (drop (i + 1) keys)) (ap (launched past) (take_more keys i d inside) ∙ launched-more past (take i keys) key))

pub all-stop : (plan : Plan) (past : List Record) (keys : List Key) (i : ℕ) (d : Key) → i < length keys → may_launch_all plan past keys ≡ may_launch_all plan (launched past (take i keys)) (drop i keys)
    → may_follow plan (launched past (take i keys)) (launch_of (launched past (take i keys)) (get_or keys i d)) ≡ false → may_launch_all plan past keys ≡ false
all-stop plan past keys i d inside so_far refused =
    let R = launched past (take i keys) in
    let key = get_or keys i d in
    so_far ∙ ap (may_launch_all plan R) (drop_more keys i d inside)
    ∙ (λ j. refused j && may_launch_all plan (launch_of R key ∷ R) (drop (i + 1) keys))

pub all-front : (plan : Plan) (past : List Record) (keys : List Key) (i : ℕ) (d : Key) → i < length keys → may_launch_all plan past (take i keys) ≡ true
    → may_follow plan (launched past (take i keys)) (launch_of (launched past (take i keys)) (get_or keys i d)) ≡ true → may_launch_all plan past (take (i + 1) keys) ≡ true
all-front plan past keys i d inside so_far follows =
    ap (may_launch_all plan past) (take_more keys i d inside) ∙ push past (take i keys) (get_or keys i d) so_far follows
  where
    push : (past : List Record) (front : List Key) (key : Key) → may_launch_all plan past front ≡ true → may_follow plan (launched past front) (launch_of (launched past front) key) ≡ true
        → may_launch_all plan past (front ++ key ∷ []) ≡ true
    push past [] key all follows = and_from _ _ follows refl
    push past (first ∷ front) key all follows =
        let p = and_parts _ _ all in and_from _ _ p.0 (push (launch_of past first ∷ past) front key p.1 follows)

-- the records of launches, one more
pub launches-more : (past : List Record) (keys : List Key) (key : Key) → launches past (keys ++ key ∷ []) ≡ launches past keys ++ launch_of (launched past keys) key ∷ []
launches-more past [] key = refl
launches-more past (first ∷ keys) key = ap (λ (l : List Record). launch_of past first ∷ l) (launches-more (launch_of past first ∷ past) keys key)

pub launches-next : (past : List Record) (keys : List Key) (i : ℕ) (d : Key) (number : ℕ) → i < length keys → number ≡ suc (job_launches (launched past (take i keys)))
    → launches past (take (i + 1) keys) ≡ launches past (take i keys) ++ Launch (get_or keys i d) (if phase_number (get_or keys i d).phase == 1 then number else 0) ∷ []
launches-next past keys i d number inside is =
    ap (launches past) (take_more keys i d inside) ∙ launches-more past (take i keys) (get_or keys i d)
    ∙ (λ j. launches past (take i keys) ++ Launch (get_or keys i d) (if phase_number (get_or keys i d).phase == 1 then sym is j else 0) ∷ [])

pub number-next : (past : List Record) (keys : List Key) (i : ℕ) (d : Key) (own number : ℕ) → i < length keys → number ≡ suc (job_launches (launched past (take i keys)))
    → jobs_after number (Launch (get_or keys i d) own) ≡ suc (job_launches (launched past (take (i + 1) keys)))
number-next past keys i d own number inside is =
    go (phase_number (get_or keys i d).phase == 1)
    ∙ sym (ap (λ (p : List Record). suc (job_launches p)) (ap (launched past) (take_more keys i d inside) ∙ launched-more past (take i keys) (get_or keys i d)))
  where
    go : (b : Bool) → (if b then 1 else 0) + number ≡ suc ((if b then 1 else 0) + job_launches (launched past (take i keys)))
    go true = omega (arith, is)
    go false = omega (arith, is)

pub number-small : (past : List Record) (keys : List Key) (i : ℕ) → i ≤ length keys → job_launches (launched past (take i keys)) ≤ i + length past
number-small past keys i inside = few past (take i keys) (omega (arith, length-take i keys))
  where
    few : (past : List Record) (front : List Key) → length front ≤ i → job_launches (launched past front) ≤ i + length past
    few past front le = let h = all past front in omega (arith, h, le)
      where
        all : (past : List Record) (front : List Key) → job_launches (launched past front) ≤ length front + length past
        all past [] = let h = jobs-few past in omega (arith, h)
        all past (key ∷ front) = let h = all (launch_of past key ∷ past) front in omega (arith, h)
