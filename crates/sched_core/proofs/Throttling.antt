-- What throttles count is what is outstanding.
use Rattle.std.proofs.Common.{◌≡◌, ℕ, suc, ◌+◌, ◌<◌, ◌≤◌, Bool, true, false, not, ◌&&◌, ◌||◌, ◌==◌, List, [], ◌∷◌, length, reverse, refl, sym, ap, ◌∙◌, subst, arith, eq-eqb, eqb-true, if◌then◌else◌}
use Rattle.std.specs.Prelude.{IfSome}
use Rattle.std.proofs.lemmas.Bool.{and_parts, false≢true, false_from_ne_true}
use Rattle.std.proofs.lemmas.List.{length-map}
use Rattle.node_machine.specs.declared.Key.{Key}
use Rattle.splices_flat.specs.declared.flat.CategoryLimit.{CategoryLimit}
use Rattle.throttles.specs.declared.Limits.{Limits}
use Rattle.throttles.specs.Throttled.{Throttled, Running, none_running, with_one, without_one, such_in, all_in, IsPlace}
use Rattle.throttles.proofs.Counts.{with-length, none-length, undo, one-there, still-there, swap-one, with-all, none-all}
use Rattle.run_plan.specs.Plan.{Plan, node_at}
use Rattle.run_plan.specs.Planned.{IsPlanned}
use Rattle.run_plan.proofs.PlanFacts.{category-placed}
use Rattle.node_machine.specs.declared.Record.{Record}
use Rattle.node_machine.specs.declared.Record.TheVariants.{Life, Launch, End, Finish}
use Rattle.sched_core.specs.Run.{outstanding, is_nothing, without, is_same, is_among, is_aborted, is_lawful, may_follow}
use Rattle.sched_core.specs.Core.{has_key_of}
use Rattle.sched_core.specs.Limits.{limits_of_categories, running_in, throttled_in, throttled_after, IsThrottled, IsOfNode, IsCounted}
use Rattle.sched_core.proofs.Keys.{same-eq}
use Rattle.sched_core.proofs.Sound.{end-among}
use Rattle.sched_core.proofs.Held.{launched-idle, launched-within, end-within}

-- one key of each node at most
abbrev pub AreApart : List Key → Type 0
AreApart [] = Unit {0}
AreApart (key ∷ keys) = (has_key_of key.node keys ≡ false) × AreApart keys

or-false : (a b : Bool) → (a || b) ≡ false → (a ≡ false) × (b ≡ false)
or-false true b h = absurd (false≢true (sym h))
or-false false b h = (refl, h)

none-without : (key : Key) (node : ℕ) (keys : List Key) → has_key_of node keys ≡ false → has_key_of node (without key keys) ≡ false
none-without key node [] h = refl
none-without key node (other ∷ keys) h = go (is_same key other) (none-without key node keys (or-false _ _ h).1)
  where
    go : (b : Bool) → has_key_of node (without key keys) ≡ false → has_key_of node (if b then without key keys else other ∷ without key keys) ≡ false
    go true rest = rest
    go false rest = λ j. (or-false (other.node == node) (has_key_of node keys) h).0 j || rest j

apart-without : (key : Key) (keys : List Key) → AreApart keys → AreApart (without key keys)
apart-without key [] a = tt
apart-without key (other ∷ keys) a = go (is_same key other) (apart-without key keys a.1)
  where
    go : (b : Bool) → AreApart (without key keys) → AreApart (if b then without key keys else other ∷ without key keys)
    go true rest = rest
    go false rest = (none-without key other.node keys a.0, rest)

pub outstanding-apart : (plan : Plan) (past : List Record) → is_lawful plan past ≡ true → AreApart (outstanding plan past)
outstanding-apart plan [] h = tt
outstanding-apart plan (Life ∷ past) h = tt
outstanding-apart plan (Finish status ∷ past) h = outstanding-apart plan past (and_parts _ _ h).0
outstanding-apart plan (Launch key number ∷ past) h =
    let p = and_parts _ _ h in (launched-idle plan past key number p.0 p.1, outstanding-apart plan past p.0)
outstanding-apart plan (End key outcome ∷ past) h = go (is_aborted plan (End key outcome ∷ past) && not (is_aborted plan past)) (outstanding-apart plan past (and_parts _ _ h).0)
  where
    go : (b : Bool) → AreApart (outstanding plan past) → AreApart (if b then [] else without key (outstanding plan past))
    go true a = tt
    go false a = apart-without key (outstanding plan past) a

-- a key whose node none of these has is not taken out
without-none : (key : Key) (keys : List Key) → has_key_of key.node keys ≡ false → without key keys ≡ keys
without-none key [] h = refl
without-none key (other ∷ keys) h = go (is_same key other) refl (without-none key keys (or-false _ _ h).1)
  where
    go : (b : Bool) → is_same key other ≡ b → without key keys ≡ keys → (if b then without key keys else other ∷ without key keys) ≡ other ∷ keys
    go true s rest =
        let o : key ≡ other = same-eq key other s in
        absurd (false≢true (sym (or-false (other.node == key.node) (has_key_of key.node keys) h).0 ∙ eq-eqb other.node key.node (ap (λ (k : Key). k.node) (sym o))))
    go false s rest = ap (λ (ks : List Key). other ∷ ks) rest

-- no more is outstanding than there are records
few-without : (key : Key) (keys : List Key) → length (without key keys) ≤ length keys
few-without key [] = omega arith
few-without key (other ∷ keys) = go (is_same key other) (few-without key keys)
  where
    go : (b : Bool) → length (without key keys) ≤ length keys → length (if b then without key keys else other ∷ without key keys) ≤ suc (length keys)
    go true h = omega arith
    go false h = omega arith

pub outstanding-few : (plan : Plan) (past : List Record) → length (outstanding plan past) ≤ length past
outstanding-few plan [] = omega arith
outstanding-few plan (Life ∷ past) = omega arith
outstanding-few plan (Finish status ∷ past) = let h = outstanding-few plan past in omega arith
outstanding-few plan (Launch key number ∷ past) = let h = outstanding-few plan past in omega arith
outstanding-few plan (End key outcome ∷ past) = go (is_aborted plan (End key outcome ∷ past) && not (is_aborted plan past)) (outstanding-few plan past)
  where
    go : (b : Bool) → length (outstanding plan past) ≤ length past → length (if b then [] else without key (outstanding plan past)) ≤ suc (length past)
    go true h = omega arith
    go false h = let f = few-without key (outstanding plan past) in omega arith

module _ (plan : Plan) (planned : IsPlanned plan) where
  running-length : (keys : List Key) → length (running_in plan keys).category_jobs ≡ length (limits_of_categories plan)
  running-length [] = none-length (limits_of_categories plan)
  running-length (key ∷ keys) = with-length (running_in plan keys) key.phase (node_at plan key.node).category ∙ running-length keys

  pub placed : (node : ℕ) → IsPlace (limits_of_categories plan) (node_at plan node).category
  placed node =
      subst (λ n. IfSome (node_at plan node).category (λ place. place < n)) (sym (length-map plan.graph.dag.categories (λ (category : CategoryLimit). category.limit)))
      (category-placed plan planned node)

  pub counted : (keys : List Key) (node : ℕ) → IsPlace (running_in plan keys).category_jobs (node_at plan node).category
  counted keys node = subst (λ n. IfSome (node_at plan node).category (λ place. place < n)) (sym (running-length keys)) (placed node)

  pub running-all : (keys : List Key) → all_in (running_in plan keys) ≡ length keys
  running-all [] = none-all (limits_of_categories plan)
  running-all (key ∷ keys) =
      let h = running-all keys in
      let w = with-all (running_in plan keys) key.phase (node_at plan key.node).category (counted keys key.node) in
      omega (arith, h, w)

  pub running-there : (key : Key) (keys : List Key) → is_among key keys ≡ true → 0 < such_in (running_in plan keys) key.phase (node_at plan key.node).category
  running-there key [] h = absurd (false≢true h)
  running-there key (other ∷ keys) h = go (is_same key other) refl (running-there key keys)
    where
      go : (b : Bool) → is_same key other ≡ b → (is_among key keys ≡ true → 0 < such_in (running_in plan keys) key.phase (node_at plan key.node).category)
          → 0 < such_in (with_one (running_in plan keys) other.phase (node_at plan other.node).category) key.phase (node_at plan key.node).category
      go true s rest =
          subst (λ (k : Key). 0 < such_in (with_one (running_in plan keys) k.phase (node_at plan k.node).category) key.phase (node_at plan key.node).category) (same-eq key other s)
          (one-there (running_in plan keys) key.phase (node_at plan key.node).category (counted keys key.node))
      go false s rest =
          still-there (running_in plan keys) other.phase key.phase (node_at plan other.node).category (node_at plan key.node).category (counted keys other.node)
          (rest ((λ j. sym s j || is_among key keys) ∙ h))

  pub running-less : (key : Key) (keys : List Key) → AreApart keys → is_among key keys ≡ true
      → running_in plan (without key keys) ≡ without_one (running_in plan keys) key.phase (node_at plan key.node).category
  running-less key [] a h = absurd (false≢true h)
  running-less key (other ∷ keys) a h = go (is_same key other) refl (running-less key keys a.1)
    where
      go : (b : Bool) → is_same key other ≡ b
          → (is_among key keys ≡ true → running_in plan (without key keys) ≡ without_one (running_in plan keys) key.phase (node_at plan key.node).category)
          → running_in plan (if b then without key keys else other ∷ without key keys)
          ≡ without_one (with_one (running_in plan keys) other.phase (node_at plan other.node).category) key.phase (node_at plan key.node).category
      go true s rest =
          let o : other ≡ key = sym (same-eq key other s) in
          ap (running_in plan) (without-none key keys (subst (λ (k : Key). has_key_of k.node keys ≡ false) o a.0))
          ∙ sym (ap (λ (k : Key). without_one (with_one (running_in plan keys) k.phase (node_at plan k.node).category) key.phase (node_at plan key.node).category) o
          ∙ undo (running_in plan keys) key.phase (node_at plan key.node).category (counted keys key.node))
      go false s rest =
          let later : is_among key keys ≡ true = (λ j. sym s j || is_among key keys) ∙ h in
          ap (λ (r : Running). with_one r other.phase (node_at plan other.node).category) (rest later)
          ∙ sym (swap-one (running_in plan keys) other.phase key.phase (node_at plan other.node).category (node_at plan key.node).category (counted keys other.node) (running-there key keys later))

  module _ (past : List Record) (throttled : Throttled) (is : IsThrottled plan past throttled) where
    categories-are : throttled.categories ≡ limits_of_categories plan
    categories-are = ap (λ (t : Throttled). t.categories) is

    running-is : throttled.running ≡ running_in plan (outstanding plan past)
    running-is = ap (λ (t : Throttled). t.running) is

    pub same-categories : throttled.categories ≡ limits_of_categories plan
    same-categories = categories-are

    -- nothing runs where nothing is outstanding
    pub idle-is : (all_in throttled.running == 0) ≡ is_nothing (outstanding plan past)
    idle-is = ap (λ (n : ℕ). n == 0) (ap all_in running-is ∙ running-all (outstanding plan past)) ∙ empty (outstanding plan past)
      where
        empty : (keys : List Key) → (length keys == 0) ≡ is_nothing keys
        empty [] = refl
        empty (key ∷ keys) = false_from_ne_true _ (λ t. let e = eqb-true (suc (length keys)) 0 t in omega (arith, e))

    pub few-running : (n : ℕ) → length past + 1 < n → all_in throttled.running + 1 < n
    few-running n lt =
        let e = ap all_in running-is in
        let a = running-all (outstanding plan past) in
        let f = outstanding-few plan past in
        omega (arith, e, a, f)

    pub entry-of_node : (entry : Record) → is_lawful plan past ≡ true → may_follow plan past entry ≡ true → IsOfNode plan entry
    entry-of_node Life lawful h = tt
    entry-of_node (Launch key number) lawful h = let w = launched-within plan past key number h in omega arith
    entry-of_node (End key outcome) lawful h = let w = end-within plan past key outcome lawful h in omega arith
    entry-of_node (Finish status) lawful h = tt

    pub entry-counted : (entry : Record) → may_follow plan past entry ≡ true → IsCounted plan throttled entry
    entry-counted Life h = tt
    entry-counted (Launch key number) h = tt
    entry-counted (End key outcome) h =
        subst (λ (r : Running). 0 < such_in r key.phase (node_at plan key.node).category) (sym running-is)
        (running-there key (outstanding plan past) (end-among plan past key outcome h).0)
    entry-counted (Finish status) h = tt

    ended : (key : Key) → is_among key (outstanding plan past) ≡ true → AreApart (outstanding plan past) → (b : Bool)
        → record throttled { running = if b then none_running throttled.categories else without_one throttled.running key.phase (node_at plan key.node).category }
        ≡ throttled_in throttled.limits plan (if b then [] else without key (outstanding plan past))
    ended key among apart true = λ j. record { limits = throttled.limits; categories = categories-are j; running = none_running (categories-are j) }
    ended key among apart false =
        let less = running-less key (outstanding plan past) apart among in
        λ j. record {
          limits = throttled.limits;
          categories = categories-are j;
          running = (ap (λ (r : Running). without_one r key.phase (node_at plan key.node).category) running-is ∙ sym less) j;
        }

    pub throttled-next : (entry : Record) → is_lawful plan past ≡ true → may_follow plan past entry ≡ true
        → IsThrottled plan (entry ∷ past) (throttled_after plan throttled entry (is_aborted plan (entry ∷ past) && not (is_aborted plan past)))
    throttled-next Life lawful h = λ j. record { limits = throttled.limits; categories = categories-are j; running = none_running (categories-are j) }
    throttled-next (Launch key number) lawful h = λ j. record {
      limits = throttled.limits;
      categories = categories-are j;
      running = with_one (running-is j) key.phase (node_at plan key.node).category;
    }
    throttled-next (End key outcome) lawful h =
        ended key (end-among plan past key outcome h).0 (outstanding-apart plan past lawful) (is_aborted plan (End key outcome ∷ past) && not (is_aborted plan past))
    throttled-next (Finish status) lawful h = is

-- what a core keeps when a record is added
pub throttled-added : (plan : Plan) → IsPlanned plan → (past now : List Record) (entry : Record) (before after : Throttled) (aborted flag stops : Bool)
    → IsThrottled plan past before → is_lawful plan past ≡ true → may_follow plan past entry ≡ true → after ≡ throttled_after plan before entry stops
    → stops ≡ (flag && not aborted) → flag ≡ is_aborted plan now → aborted ≡ is_aborted plan past → now ≡ entry ∷ past → IsThrottled plan now after
throttled-added plan planned past now entry before after aborted flag stops is lawful may e s f a n =
    let told : flag ≡ is_aborted plan (entry ∷ past) = f ∙ ap (is_aborted plan) n in
    let stop : stops ≡ (is_aborted plan (entry ∷ past) && not (is_aborted plan past)) = s ∙ (λ j. told j && not (a j)) in
    subst (λ p. IsThrottled plan p after) (sym n)
    (subst (IsThrottled plan (entry ∷ past)) (sym (e ∙ ap (throttled_after plan before entry) stop)) (throttled-next plan planned past before is entry lawful may))

-- and at first
pub fresh-throttled : (plan : Plan) (limits : Limits) (records : List Record) (t : Throttled) → t ≡ throttled_in limits plan [] → records ≡ [] → IsThrottled plan (reverse records) t
fresh-throttled plan limits records t e n =
    e ∙ (λ j. throttled_in (sym (ap (λ (t : Throttled). t.limits) e) j) plan (outstanding plan (reverse (sym n j))))
