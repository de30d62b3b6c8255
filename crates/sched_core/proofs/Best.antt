-- The best of the phases that may be started.
use Rattle.std.proofs.Common.{nat_lt, lt-ltb, not, ◌||◌, zero, ◌≡◌, ℕ, suc, ◌<◌, inl, inr, ⊎_elim, Bool, true, false, List, [], ◌∷◌, length, Option, Some, None, ◌==◌, refl, sym, ap, ◌∙◌, subst, arith, if◌then◌else◌}
use Rattle.std.specs.Prelude.{◌⊎◌, ℤ, ◌≤ℤ◌, replicate, slice_index}
use Rattle.std.proofs.lemmas.Bool.{ltb-true, ltb-false, and_from, false≢true}
use Rattle.std.proofs.lemmas.Int.{ints, by_lt_z}
use Rattle.node_machine.specs.declared.Key.{Key}
use Rattle.node_machine.specs.declared.Phase.{Phase}
use Rattle.node_machine.specs.declared.Phase.TheVariants.{Pre, Job, Post}
use Rattle.throttles.specs.declared.Limits.{Limits}
use Rattle.throttles.specs.Throttled.{is_below, none_running, lets_phase, limit_of, of_kind}
use Rattle.throttles.proofs.Counts.{none-all}
use Rattle.run_plan.specs.Plan.{Plan, node_at, count_of}
use Rattle.node_machine.specs.declared.Record.{Record}
use Rattle.node_machine.specs.declared.Record.TheVariants.{Launch}
use Rattle.sched_core.specs.declared.Choice.{Choice}
use Rattle.sched_core.specs.declared.Choice.TheVariants as choices
use Rattle.sched_core.specs.Run.{outstanding, is_nothing, is_open, may_launch, may_follow, launch_number}
use Rattle.sched_core.specs.Core.{better_of, IsBestOf, IsBestBelow}
use Rattle.sched_core.specs.Choices.{launchable, nothing_launchable, if_let_in, startable, IsChoice}
use Rattle.sched_core.specs.Limits.{member_of, limits_of_categories, lets_in, IsBetter}
use Rattle.ready_queue.specs.declared.Member.{Member}
use Rattle.ready_queue.specs.Queue.{ComesBefore, comes_before}
use Rattle.ready_queue.proofs.Places.{trans, either, is-before, comes-before}
use Rattle.ready_queue.proofs.Edits.{by_lt}
use Rattle.sched_core.proofs.Shares.{by_same}
use Rattle.sched_core.proofs.Sweeps.{all_below-from, all_below-not}
use Rattle.sched_core.proofs.Leaf.{key-node}
use Rattle.sched_core.proofs.Held.{launch-within}
use Rattle.sched_core.proofs.Moves.{launchable-next, not-launchable, start-follows}

module _ (limits : Limits) (plan : Plan) (past : List Record) where
  -- a phase that may be started may be launched, and is let in
  pub startable-parts : (node : ℕ) (key : Key) → startable limits plan past node ≡ Some key
      → (launchable plan past node ≡ Some key) × (lets_in limits plan (outstanding plan past) key ≡ true)
  startable-parts node key e = go (launchable plan past node) refl e
    where
      go : (o : Option Key) → launchable plan past node ≡ o → if_let_in limits plan past o ≡ Some key
          → (launchable plan past node ≡ Some key) × (lets_in limits plan (outstanding plan past) key ≡ true)
      go None l h = absurd cc
      go (Some k) l h = on (lets_in limits plan (outstanding plan past) k) refl
        where
          on : (b : Bool) → lets_in limits plan (outstanding plan past) k ≡ b → (launchable plan past node ≡ Some key) × (lets_in limits plan (outstanding plan past) key ≡ true)
          on true t =
              let same : Some k ≡ Some key = (λ j. if sym t j then Some k else None) ∙ h in
              let k_is : k ≡ key = cc in
              (l ∙ same, subst (λ m. lets_in limits plan (outstanding plan past) m ≡ true) k_is t)
          on false t =
              let bad : None ≡ Some key = (λ j. if sym t j then Some k else None) ∙ h in
              absurd cc

  pub startable-node : (node : ℕ) (key : Key) → startable limits plan past node ≡ Some key → key.node ≡ node
  startable-node node key e = key-node plan past node key (launchable-next plan past node key (startable-parts node key e).0).1

  pub startable-within : (node : ℕ) (key : Key) → startable limits plan past node ≡ Some key → node < suc (count_of plan)
  startable-within node key e = launch-within plan past node (launchable-next plan past node key (startable-parts node key e).0).0

  pub startable-past : (node : ℕ) → count_of plan < node → startable limits plan past node ≡ None
  startable-past node lt = go (startable limits plan past node) refl
    where
      go : (o : Option Key) → startable limits plan past node ≡ o → startable limits plan past node ≡ None
      go None e = e
      go (Some key) e = let w = startable-within node key e in absurd (omega arith)

  not-better-itself : (node : ℕ) → IsBetter plan node node → ⊥
  not-better-itself node (inl x) = omega (arith, ints)
  not-better-itself node (inr x) = let l = x.1 in omega arith

  -- the better of the best of some nodes and the best of others is the best of all
  pub merged : (some more all : ℕ → Type 0) → ((node : ℕ) → some node → all node) → ((node : ℕ) → more node → all node) → ((node : ℕ) → all node → some node ⊎ more node)
      → (best next : Option Key) → IsBestOf limits plan past some best → IsBestOf limits plan past more next → IsBestOf limits plan past all (better_of plan best next)
  merged some more all left right split None None b n = λ node is. ⊎_elim (λ x. b node x) (λ y. n node y) (split node is)
  merged some more all left right split None (Some next) b n = (
    n.0,
    right next.node n.1,
    λ node other is e better. ⊎_elim (λ x. let bad : None ≡ Some other = sym (b node x) ∙ e in absurd cc) (λ y. n.2 node other y e better) (split node is),
  )
  merged some more all left right split (Some best) None b n = (
    b.0,
    left best.node b.1,
    λ node other is e better. ⊎_elim (λ x. b.2 node other x e better) (λ y. let bad : None ≡ Some other = sym (n node y) ∙ e in absurd cc) (split node is),
  )
  merged some more all left right split (Some best) (Some next) b n = go (comes_before (member_of plan next.node) (member_of plan best.node)) refl
    where
      go : (t : Bool) → comes_before (member_of plan next.node) (member_of plan best.node) ≡ t → IsBestOf limits plan past all (if t then Some next else Some best)
      go true e =
          let before = comes-before (member_of plan next.node) (member_of plan best.node) e in (
            n.0,
            right next.node n.1,
            λ node other is s better. ⊎_elim
                (λ x. b.2 node other x s (trans (member_of plan node) (member_of plan next.node) (member_of plan best.node) better before))
                (λ y. n.2 node other y s better) (split node is),
          )
      go false e = (
        b.0,
        left best.node b.1,
        λ node other is s better. ⊎_elim (λ x. b.2 node other x s better) (λ y. n.2 node other y s (over node better)) (split node is),
      )
        where
          not-before : ComesBefore (member_of plan next.node) (member_of plan best.node) → ⊥
          not-before c = false≢true (sym e ∙ is-before (member_of plan next.node) (member_of plan best.node) c)

          over : (node : ℕ) → IsBetter plan node best.node → IsBetter plan node next.node
          over node better = on (comes_before (member_of plan node) (member_of plan next.node)) refl
            where
              on : (t : Bool) → comes_before (member_of plan node) (member_of plan next.node) ≡ t → IsBetter plan node next.node
              on true t = comes-before (member_of plan node) (member_of plan next.node) t
              on false f = absurd (by_same node next.node
                  (λ same. not-before (subst (λ k. IsBetter plan k best.node) same better))
                  (λ ne. not-before (trans (member_of plan next.node) (member_of plan node) (member_of plan best.node)
                  (either (member_of plan node) (member_of plan next.node) (λ c. false≢true (sym f ∙ is-before (member_of plan node) (member_of plan next.node) c)) (λ eq. ne (ap (λ (m : Member). m.node) eq)))
                  better)))

  -- one node's own phase
  own-best : (i : ℕ) (o : Option Key) → startable limits plan past i ≡ o → IsBestOf limits plan past (λ node. node ≡ i) o
  own-best i None s = λ node is. ap (startable limits plan past) is ∙ s
  own-best i (Some key) s =
      let at : key.node ≡ i = startable-node i key s in (
        ap (startable limits plan past) at ∙ s,
        at,
        λ node other is k b. not-better-itself i (subst (λ n. IsBetter plan n i) is (subst (IsBetter plan node) at b)),
      )

  pub best-step : (i : ℕ) (best o : Option Key) → IsBestBelow limits plan past i best → startable limits plan past i ≡ o
      → IsBestBelow limits plan past (suc i) (better_of plan best o)
  best-step i best o b s =
      merged (λ node. node < i) (λ node. node ≡ i) (λ node. node < suc i) (λ node lt. omega (arith, lt)) (λ node is. omega (arith, is))
      (λ node lt. by_lt node i (λ less. inl less) (λ ge. inr (omega (arith, ge, lt)))) best o b (own-best i o s)

-- where nothing is outstanding every phase is let in
below-zero : (limit : ℕ) → is_below limit 0 ≡ true
below-zero zero = refl
below-zero (suc limit) = elim (suc limit == 0) as (λ b. (b || nat_lt 0 (suc limit)) ≡ true) [ true ↦ refl | false ↦ lt-ltb 0 (suc limit) (omega arith) ]

none-kind : (categories : List ℕ) (phase : Phase) → of_kind phase (none_running categories) ≡ 0
none-kind categories Pre = refl
none-kind categories Job = let z = none-all categories in omega (arith, z)
none-kind categories Post = refl

get-zero : (n i : ℕ) → slice_index (replicate n 0) i ≡ 0
get-zero zero i = refl
get-zero (suc n) zero = refl
get-zero (suc n) (suc i) = get-zero n i

none-lets : (limits : Limits) (categories : List ℕ) (phase : Phase) (category : Option ℕ)
    → lets_phase (record { limits = limits; categories = categories; running = none_running categories }) phase category ≡ true
none-lets limits categories Pre category = refl
none-lets limits categories Post category = refl
none-lets limits categories Job None = refl
none-lets limits categories Job (Some place) =
    ap (is_below (slice_index categories place)) (get-zero (length categories) place) ∙ below-zero (slice_index categories place)

lets-all : (limits : Limits) (plan : Plan) (key : Key) → lets_in limits plan [] key ≡ true
lets-all limits plan key =
    and_from _ _ (and_from _ _ (ap (is_below limits.children) (none-all (limits_of_categories plan)) ∙ below-zero limits.children)
    (ap (is_below (limit_of limits key.phase)) (none-kind (limits_of_categories plan) key.phase) ∙ below-zero (limit_of limits key.phase)))
    (none-lets limits (limits_of_categories plan) key.phase (node_at plan key.node).category)

empty : (keys : List Key) → is_nothing keys ≡ true → keys ≡ []
empty [] h = refl
empty (key ∷ keys) h = absurd (false≢true h)

-- so where nothing is outstanding and nothing may be started, nothing may be launched
pub nothing-to-start : (limits : Limits) (plan : Plan) (past : List Record) → is_nothing (outstanding plan past) ≡ true
    → ((node : ℕ) → node < suc (count_of plan) → startable limits plan past node ≡ None) → nothing_launchable plan past (suc (count_of plan)) ≡ true
nothing-to-start limits plan past nothing none =
    all_below-from (λ node. not (may_launch plan past node)) (suc (count_of plan))
    (λ node lt. ap not (not-launchable plan past node (go node (launchable plan past node) refl (none node lt))))
  where
    go : (node : ℕ) (o : Option Key) → launchable plan past node ≡ o → if_let_in limits plan past (launchable plan past node) ≡ None → launchable plan past node ≡ None
    go node None l h = l
    go node (Some key) l h =
        let let_in : lets_in limits plan (outstanding plan past) key ≡ true = ap (λ (keys : List Key). lets_in limits plan keys key) (empty _ nothing) ∙ lets-all limits plan key in
        let bad : Some key ≡ None = sym (ap (if_let_in limits plan past) l ∙ (λ j. if let_in j then Some key else None)) ∙ h in
        absurd cc

-- the best of all that may be started is the choice
pub best-start : (limits : Limits) (plan : Plan) (past : List Record) (key : Key) → IsBestBelow limits plan past (suc (count_of plan)) (Some key) → IsChoice limits plan past (choices.Start key)
best-start limits plan past key b = (
  b.0,
  λ node other e. b.2 node other (startable-within limits plan past node other e) e,
)

pub best-none : (limits : Limits) (plan : Plan) (past : List Record) → IsBestBelow limits plan past (suc (count_of plan)) None → (node : ℕ) → startable limits plan past node ≡ None
best-none limits plan past b node = go (nat_lt node (suc (count_of plan))) refl
  where
    go : (t : Bool) → nat_lt node (suc (count_of plan)) ≡ t → startable limits plan past node ≡ None
    go true e = b node (ltb-true node (suc (count_of plan)) e)
    go false e = let ge = ltb-false node (suc (count_of plan)) e in startable-past limits plan past node (omega arith)

-- one of two members is before the other
one-better : (plan : Plan) (node other : ℕ) → (IsBetter plan node other → ⊥) → (IsBetter plan other node → ⊥) → node ≡ other
one-better plan node other not_before not_after =
    let p = (node_at plan node).priority in
    let q = (node_at plan other).priority in
    by_lt_z p q (λ lt. absurd (not_after (inl lt)))
    (λ ge. by_lt_z q p (λ lt. absurd (not_before (inl lt)))
    (λ le. equal-priority (tie p q le ge)))
  where
    tie : (p q : ℤ) → p ≤ℤ q → q ≤ℤ p → p ≡ q
    tie p q h k = omega (arith, ints)

    equal-priority : (node_at plan node).priority ≡ (node_at plan other).priority → node ≡ other
    equal-priority e = go (nat_lt node other) refl (nat_lt other node) refl
      where
        go : (a : Bool) → nat_lt node other ≡ a → (b : Bool) → nat_lt other node ≡ b → node ≡ other
        go true l b m = absurd (not_before (inr (e, ltb-true node other l)))
        go false l true m = absurd (not_after (inr (sym e, ltb-true other node m)))
        go false l false m = let g = ltb-false node other l in let h = ltb-false other node m in omega arith

start-finish : (limits : Limits) (plan : Plan) (past : List Record) (key : Key) → startable limits plan past key.node ≡ Some key
    → nothing_launchable plan past (suc (count_of plan)) ≡ true → ⊥
start-finish limits plan past key e nothing =
    let launched : may_launch plan past key.node ≡ true = (launchable-next plan past key.node key (startable-parts limits plan past key.node key e).0).0 in
    false≢true (sym (all_below-not (λ node. not (may_launch plan past node)) (suc (count_of plan)) key.node (launch-within plan past key.node launched) (ap not launched)) ∙ nothing)

pub chosen-follows : (limits : Limits) (plan : Plan) (past : List Record) (key : Key) → is_open past ≡ true → IsChoice limits plan past (choices.Start key)
    → may_follow plan past (Launch key (launch_number past key)) ≡ true
chosen-follows limits plan past key open_now c = start-follows plan past key.node key open_now (startable-parts limits plan past key.node key c.0).0

pub choice-one : (limits : Limits) (plan : Plan) (past : List Record) (a b : Choice) → IsChoice limits plan past a → IsChoice limits plan past b → a ≡ b
choice-one limits plan past (choices.Start key) (choices.Start other) c d =
    let same : key.node ≡ other.node = one-better plan key.node other.node (λ better. d.1 key.node key c.0 better) (λ better. c.1 other.node other d.0 better) in
    let one : Some key ≡ Some other = sym c.0 ∙ ap (startable limits plan past) same ∙ d.0 in
    cc
choice-one limits plan past (choices.Start key) choices.Wait c d = let bad : None ≡ Some key = sym (d.1 key.node) ∙ c.0 in absurd cc
choice-one limits plan past choices.Wait (choices.Start key) c d = let bad : None ≡ Some key = sym (c.1 key.node) ∙ d.0 in absurd cc
choice-one limits plan past choices.Wait choices.Wait c d = refl
choice-one limits plan past choices.Wait (choices.Finish status) c d = absurd (false≢true (sym c.0 ∙ d.1))
choice-one limits plan past (choices.Finish status) choices.Wait c d = absurd (false≢true (sym d.0 ∙ c.1))
choice-one limits plan past (choices.Finish status) (choices.Finish other) c d = ap choices.Finish (c.2 ∙ sym d.2)
choice-one limits plan past (choices.Finish status) (choices.Start key) c d = absurd (start-finish limits plan past key d.0 c.0)
choice-one limits plan past (choices.Start key) (choices.Finish status) c d = absurd (start-finish limits plan past key c.0 d.0)
