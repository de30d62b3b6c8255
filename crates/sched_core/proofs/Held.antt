-- Outstanding keys, by their nodes.
use Rattle.std.proofs.Common.{◌≡◌, ℕ, suc, ◌<◌, Bool, true, false, not, ◌&&◌, ◌||◌, List, [], ◌∷◌, ◌++◌, ◌==◌, Some, refl, sym, ap, ◌∙◌, subst, arith, eq-eqb, eqb-true, if◌then◌else◌}
use Rattle.std.specs.Prelude.{nat_lt}
use Rattle.std.proofs.lemmas.Bool.{and_parts, and_from, not-true, ltb-true, false≢true, false_from_ne_true}
use Rattle.node_machine.specs.declared.Outcome.{Outcome}
use Rattle.node_machine.specs.declared.Key.{Key}
use Rattle.node_machine.specs.declared.Ended.{Ended}
use Rattle.node_machine.specs.Story.{next_after, may_end_with, is_that_phase, is_history}
use Rattle.node_machine.proofs.Trees.{got}
use Rattle.node_machine.proofs.Paces.{may-go_on-push}
use Rattle.run_plan.specs.Plan.{Plan, node_at, count_of}
use Rattle.node_machine.specs.declared.Record.{Record}
use Rattle.node_machine.specs.declared.Record.TheVariants.{Life, Launch, End, Finish}
use Rattle.sched_core.specs.Run.{history, next, outstanding, without, is_same, is_among, is_next, is_free, is_aborted, may_follow, is_lawful, may_launch, is_ready, is_final_ready}
use Rattle.sched_core.specs.Core.{has_key_of, is_running}
use Rattle.sched_core.proofs.Keys.{same-eq, same-self, Each, each_among, each_without}
use Rattle.sched_core.proofs.Sound.{Held, sound, next-parts, end-among, launch-held}

-- in a lawful list each node's phases that ended are a history
pub histories-are : (plan : Plan) (past : List Record) → is_lawful plan past ≡ true → (node : ℕ) → is_history (node_at plan node).course (history past node) ≡ true
histories-are plan [] h node = refl
histories-are plan (Life ∷ past) h node = histories-are plan past (and_parts _ _ h).0 node
histories-are plan (Launch key number ∷ past) h node = histories-are plan past (and_parts _ _ h).0 node
histories-are plan (Finish status ∷ past) h node = histories-are plan past (and_parts _ _ h).0 node
histories-are plan (End key outcome ∷ past) h node = go (key.node == node) refl (histories-are plan past (and_parts _ _ h).0 node)
  where
    parts : (is_lawful plan past ≡ true) × (may_follow plan past (End key outcome) ≡ true)
    parts = and_parts (is_lawful plan past) (may_follow plan past (End key outcome)) h

    e : Ended
    e = got key.attempt key.phase outcome

    a : (is_among key (outstanding plan past) ≡ true) × (may_end_with (node_at plan key.node).course key.phase outcome ≡ true)
    a = end-among plan past key outcome parts.1

    held : Held plan past key
    held = each_among (Held plan past) key (outstanding plan past) (sound plan past parts.0).held a.0

    that : is_that_phase (next_after (node_at plan key.node).course (history past key.node)) e ≡ true
    that =
        ap (λ o. is_that_phase o e) (next-parts plan past key.node key held.is_next).1
        ∙ and_from _ _ (eq-eqb key.attempt key.attempt refl) (eq-eqb _ _ refl)

    go : (b : Bool) → (key.node == node) ≡ b → is_history (node_at plan node).course (history past node) ≡ true
        → is_history (node_at plan node).course (if b then history past node ++ e ∷ [] else history past node) ≡ true
    go false ne before = before
    go true same before =
        let n = eqb-true key.node node same in
        may-go_on-push (node_at plan node).course [] (history past node) e before
        (subst (λ m. is_that_phase (next_after (node_at plan m).course (history past m)) e ≡ true) n that)
        (subst (λ m. may_end_with (node_at plan m).course key.phase outcome ≡ true) n a.1)

and-false : (b : Bool) → (b && false) ≡ false
and-false true = refl
and-false false = refl

module _ (plan : Plan) (past : List Record) where
  -- two outstanding keys of one node are one
  held-one : (key other : Key) → next plan past key.node ≡ Some key → Held plan past other → other.node ≡ key.node → other ≡ key
  held-one key other is held n =
      let one : Some other ≡ Some key = sym held.is_next ∙ ap (next plan past) n ∙ is in
      cc

  pub without-own : (key : Key) → next plan past key.node ≡ Some key → (keys : List Key) → Each (Held plan past) keys → has_key_of key.node (without key keys) ≡ false
  without-own key is [] e = refl
  without-own key is (other ∷ keys) e = go (is_same key other) refl (without-own key is keys e.1)
    where
      go : (b : Bool) → is_same key other ≡ b → has_key_of key.node (without key keys) ≡ false → has_key_of key.node (if b then without key keys else other ∷ without key keys) ≡ false
      go true s rest = rest
      go false s rest =
          let ne : (other.node == key.node) ≡ false = false_from_ne_true _ (λ h.
          let o : other ≡ key = held-one key other is e.0 (eqb-true other.node key.node h) in
          false≢true (sym s ∙ (λ j. is_same key (o j)) ∙ same-self key)) in
          λ j. ne j || rest j

  pub without-other : (key : Key) (node : ℕ) → (key.node == node) ≡ false → (keys : List Key) → has_key_of node (without key keys) ≡ has_key_of node keys
  without-other key node ne [] = refl
  without-other key node ne (other ∷ keys) = go (is_same key other) refl (without-other key node ne keys)
    where
      go : (b : Bool) → is_same key other ≡ b → has_key_of node (without key keys) ≡ has_key_of node keys
          → has_key_of node (if b then without key keys else other ∷ without key keys) ≡ ((other.node == node) || has_key_of node keys)
      go true s rest =
          let o : key ≡ other = same-eq key other s in
          rest ∙ (λ j. (sym ne ∙ (λ k. (o k).node == node)) j || has_key_of node keys)
      go false s rest = λ j. (other.node == node) || rest j

  -- a key is outstanding where its node has an outstanding phase and it is the node's next
  pub among-is : (key : Key) (keys : List Key) → Each (Held plan past) keys → is_among key keys ≡ (has_key_of key.node keys && is_next (next plan past key.node) key)
  among-is key [] e = refl
  among-is key (other ∷ keys) e = go (other.node == key.node) refl (is_same key other) refl (among-is key keys e.1)
    where
      same-node : is_same key other ≡ true → (other.node == key.node) ≡ true
      same-node s = let o : key ≡ other = same-eq key other s in eq-eqb other.node key.node (λ j. (sym o j).node)

      nexts : (other.node == key.node) ≡ true → next plan past key.node ≡ Some other
      nexts n = ap (next plan past) (sym (eqb-true other.node key.node n)) ∙ e.0.is_next

      go : (b : Bool) → (other.node == key.node) ≡ b → (c : Bool) → is_same key other ≡ c
          → is_among key keys ≡ (has_key_of key.node keys && is_next (next plan past key.node) key)
          → (is_same key other || is_among key keys) ≡ (((other.node == key.node) || has_key_of key.node keys) && is_next (next plan past key.node) key)
      go true n true s rest =
          let o : key ≡ other = same-eq key other s in
          (λ j. s j || is_among key keys)
          ∙ sym ((λ j. (n j || has_key_of key.node keys) && is_next (nexts n j) key) ∙ (λ j. is_same (sym o j) key) ∙ same-self key)
      go true n false s rest =
          let not_next : is_next (next plan past key.node) key ≡ false =
          ap (λ o. is_next o key) (nexts n) ∙ false_from_ne_true _ (λ h.
          let o : other ≡ key = same-eq other key h in false≢true (sym s ∙ (λ j. is_same key (o j)) ∙ same-self key)) in
          (λ j. s j || (rest ∙ (λ k. has_key_of key.node keys && not_next k) ∙ and-false (has_key_of key.node keys)) j)
          ∙ sym (λ j. (n j || has_key_of key.node keys) && not_next j)
      go false n true s rest = absurd (false≢true (sym n ∙ same-node s))
      go false n false s rest = (λ j. s j || is_among key keys) ∙ rest ∙ sym (λ j. (n j || has_key_of key.node keys) && is_next (next plan past key.node) key)

  -- a node's next phase is free where none of its phases is outstanding
  pub free-is : (node : ℕ) (key : Key) → Each (Held plan past) (outstanding plan past) → next plan past node ≡ Some key → key.node ≡ node
      → is_free plan past (Some key) ≡ not (is_running plan past node)
  free-is node key e is n =
      ap not (among-is key (outstanding plan past) e
      ∙ (λ j. has_key_of (n j) (outstanding plan past) && is_next ((ap (next plan past) n ∙ is) j) key)
      ∙ (λ j. has_key_of node (outstanding plan past) && same-self key j)
      ∙ and-true (has_key_of node (outstanding plan past)))
    where
      and-true : (b : Bool) → (b && true) ≡ b
      and-true true = refl
      and-true false = refl

-- a node whose phase may be launched is one of the plan
pub launch-within : (plan : Plan) (past : List Record) (node : ℕ) → may_launch plan past node ≡ true → node < suc (count_of plan)
unfolding may_launch
launch-within plan past node h = go (nat_lt node (count_of plan)) refl
  where
    go : (b : Bool) → nat_lt node (count_of plan) ≡ b → node < suc (count_of plan)
    go true lt = let l = ltb-true node (count_of plan) lt in omega arith
    go false ge =
        let p = and_parts _ _ ((λ j. if sym ge j then is_ready plan past node else (node == count_of plan) && is_final_ready plan past) ∙ h) in
        let e = eqb-true node (count_of plan) p.0 in
        omega arith

pub launched-within : (plan : Plan) (past : List Record) (key : Key) (number : ℕ) → may_follow plan past (Launch key number) ≡ true → key.node < suc (count_of plan)
unfolding may_follow
launched-within plan past key number h = launch-within plan past key.node (and_parts _ _ (and_parts _ _ (and_parts _ _ h).0).0).1

abbrev pub Within : Plan → Key → Type 0
Within plan key = key.node < suc (count_of plan)

-- outstanding keys are of nodes of the plan
pub outstanding-within : (plan : Plan) (past : List Record) → is_lawful plan past ≡ true → Each (Within plan) (outstanding plan past)
outstanding-within plan [] h = tt
outstanding-within plan (Life ∷ past) h = tt
outstanding-within plan (Launch key number ∷ past) h =
    let p = and_parts _ _ h in (launched-within plan past key number p.1, outstanding-within plan past p.0)
outstanding-within plan (Finish status ∷ past) h = outstanding-within plan past (and_parts _ _ h).0
outstanding-within plan (End key outcome ∷ past) h = go (is_aborted plan (End key outcome ∷ past) && not (is_aborted plan past)) (outstanding-within plan past (and_parts _ _ h).0)
  where
    go : (b : Bool) → Each (Within plan) (outstanding plan past) → Each (Within plan) (if b then [] else without key (outstanding plan past))
    go true e = tt
    go false e = each_without (Within plan) (Within plan) key (λ other s w. w) (outstanding plan past) e

pub end-within : (plan : Plan) (past : List Record) (key : Key) (outcome : Outcome) → is_lawful plan past ≡ true → may_follow plan past (End key outcome) ≡ true → key.node < suc (count_of plan)
end-within plan past key outcome lawful h = each_among (Within plan) key (outstanding plan past) (outstanding-within plan past lawful) (end-among plan past key outcome h).0

-- a phase that may be launched is free
launch-free : (plan : Plan) (past : List Record) (node : ℕ) → may_launch plan past node ≡ true → is_free plan past (next plan past node) ≡ true
unfolding may_launch is_ready is_final_ready
launch-free plan past node h = go (nat_lt node (count_of plan)) refl
  where
    go : (b : Bool) → nat_lt node (count_of plan) ≡ b → is_free plan past (next plan past node) ≡ true
    go true lt = (and_parts _ _ ((λ j. if sym lt j then is_ready plan past node else (node == count_of plan) && is_final_ready plan past) ∙ h)).1
    go false ge =
        let p = and_parts _ _ ((λ j. if sym ge j then is_ready plan past node else (node == count_of plan) && is_final_ready plan past) ∙ h) in
        let free = (and_parts _ _ (and_parts _ _ (and_parts _ _ p.1).0).0).1 in
        subst (λ n. is_free plan past (next plan past n) ≡ true) (sym (eqb-true node (count_of plan) p.0)) free

-- nothing of a node runs whose phase is launched
pub launched-idle : (plan : Plan) (past : List Record) (key : Key) (number : ℕ) → is_lawful plan past ≡ true → may_follow plan past (Launch key number) ≡ true
    → is_running plan past key.node ≡ false
unfolding may_follow
launched-idle plan past key number lawful h =
    let may : may_launch plan past key.node ≡ true = (and_parts _ _ (and_parts _ _ (and_parts _ _ h).0).0).1 in
    let is : next plan past key.node ≡ Some key = (launch-held plan past key number h).is_next in
    let free : is_free plan past (Some key) ≡ true = ap (is_free plan past) (sym is) ∙ launch-free plan past key.node may in
    not-true _ (sym (free-is plan past key.node key (sound plan past lawful).held is refl) ∙ free)

-- and a phase that ends runs
pub ended-runs : (plan : Plan) (past : List Record) (key : Key) (outcome : Outcome) → is_lawful plan past ≡ true → may_follow plan past (End key outcome) ≡ true
    → is_running plan past key.node ≡ true
ended-runs plan past key outcome lawful h =
    (and_parts _ _ (sym (among-is plan past key (outstanding plan past) (sound plan past lawful).held) ∙ (end-among plan past key outcome h).0)).0
