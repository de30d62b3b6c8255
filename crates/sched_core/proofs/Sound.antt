-- What is true of every lawful list.
use Rattle.std.proofs.Common.{◌≡◌, ℕ, ◌<◌, ◌⊎◌, inl, inr, Bool, true, false, not, ◌&&◌, ◌||◌, List, [], ◌∷◌, ◌++◌, ◌==◌, Option, Some, None, is_none, refl, sym, ap, ◌∙◌, subst, eq-eqb, eqb-true, lt-ltb, if◌then◌else◌}
use Rattle.std.proofs.lemmas.Bool.{and_parts, false≢true}
use Rattle.std.specs.List.{list_all}
use Rattle.node_machine.specs.declared.Phase.{Phase}
use Rattle.node_machine.specs.declared.Outcome.{Outcome}
use Rattle.node_machine.specs.declared.Key.{Key}
use Rattle.node_machine.specs.Story.{outcome_in, attempts_after, next_after, is_good_after, may_end_with, newest_attempt, is_good}
use Rattle.node_machine.proofs.Beginnings.{Fits, fits-nil, fits-next}
use Rattle.node_machine.proofs.Trees.{got}
use Rattle.node_machine.specs.declared.Record.{Record}
use Rattle.node_machine.specs.declared.Record.TheVariants.{Life, Launch, End, Finish}
use Rattle.run_plan.specs.Plan.{Plan, node_at, count_of}
use Rattle.sched_core.specs.Run.{history, key_at, next, is_done, outstanding, without, is_same, is_among, is_aborted, may_follow, is_lawful, may_launch, is_ready, is_final_ready}
use Rattle.sched_core.proofs.Keys.{same-self, next-eq, all-mono, Each, each_among, each_without}

-- a node that has a next phase is not done from the start, and the phase is the next of its history
pub next-parts : (plan : Plan) (past : List Record) (node : ℕ) (key : Key) → next plan past node ≡ Some key
    → ((node_at plan node).done ≡ false) × (next_after (node_at plan node).course (history past node) ≡ Some (key.attempt, key.phase))
next-parts plan past node key some = go (node_at plan node).done refl
  where
    from : (o : Option (ℕ × Phase)) → next_after (node_at plan node).course (history past node) ≡ o → key_at node o ≡ Some key
        → next_after (node_at plan node).course (history past node) ≡ Some (key.attempt, key.phase)
    from None n e = absurd cc
    from (Some p) n e =
        let k : record { node = node; attempt = p.0; phase = p.1 } ≡ key = cc in
        n ∙ (λ j. Some ((k j).attempt, (k j).phase))

    go : (b : Bool) → (node_at plan node).done ≡ b → ((node_at plan node).done ≡ false) × (next_after (node_at plan node).course (history past node) ≡ Some (key.attempt, key.phase))
    go true h =
        let bad : None ≡ Some key = (λ j. if sym h j then None else key_at node (next_after (node_at plan node).course (history past node))) ∙ some in
        absurd cc
    go false h = (
      h,
      from (next_after (node_at plan node).course (history past node)) refl
          ((λ j. if sym h j then None else key_at node (next_after (node_at plan node).course (history past node))) ∙ some),
    )

abbrev pub ParentsDone : Plan → List Record → ℕ → Type 0
ParentsDone plan past node = list_all (is_done plan past) (node_at plan node).parents ≡ true

-- an outstanding key is its node's next, and its node's parents are done
pub record Held (plan : Plan) (past : List Record) (key : Key) : Type 0 where
  pub is_next : next plan past key.node ≡ Some key
  pub parents : key.node < count_of plan → ParentsDone plan past key.node

pub record Sound (plan : Plan) (past : List Record) : Type 0 where
  pub fits : (node : ℕ) → Fits (node_at plan node).course (history past node) (outcome_in (history past node))
  pub idle : (node : ℕ) → (node_at plan node).done ≡ true → history past node ≡ []
  pub held : Each (Held plan past) (outstanding plan past)
  pub begun : (node : ℕ) → node < count_of plan → (history past node ≡ []) ⊎ ParentsDone plan past node

-- a record that ends no phase
module _ (plan : Plan) (past : List Record) where
  sound-silent : (past' : List Record) → ((node : ℕ) → history past' node ≡ history past node) → Sound plan past → Each (Held plan past) (outstanding plan past') → Sound plan past'
  sound-silent past' h s held = record {
    fits = λ node. subst (λ es. Fits (node_at plan node).course es (outcome_in es)) (sym (h node)) (s.fits node);
    idle = λ node done. h node ∙ s.idle node done;
    held = each-silent (outstanding plan past') held;
    begun = λ node lt. elim (s.begun node lt) [ inl e ↦ inl (h node ∙ e) | inr e ↦ inr (parents node e) ];
  }
    where
      done : (node : ℕ) → is_done plan past' node ≡ is_done plan past node
      done node = λ j. (node_at plan node).done || is_good_after (node_at plan node).course (h node j)

      parents : (node : ℕ) → ParentsDone plan past node → ParentsDone plan past' node
      parents node = all-mono (is_done plan past) (is_done plan past') (λ p e. done p ∙ e) (node_at plan node).parents

      each-silent : (keys : List Key) → Each (Held plan past) keys → Each (Held plan past') keys
      each-silent [] e = tt
      each-silent (key ∷ keys) e = (
        record {
          is_next = (λ j. if (node_at plan key.node).done then None else key_at key.node (next_after (node_at plan key.node).course (h key.node j))) ∙ e.0.is_next;
          parents = λ lt. parents key.node (e.0.parents lt);
        },
        each-silent keys e.1,
      )

-- what a launch asks for
module _ (plan : Plan) (past : List Record) (key : Key) where
  ready-parents : is_ready plan past key.node ≡ true → ParentsDone plan past key.node
  unfolding is_ready
  ready-parents h = (and_parts _ _ (and_parts _ _ h).0).1

  launch-parents : may_launch plan past key.node ≡ true → key.node < count_of plan → ParentsDone plan past key.node
  unfolding may_launch
  launch-parents h lt =
      let e = lt-ltb key.node (count_of plan) lt in
      ready-parents ((λ j. if sym e j then is_ready plan past key.node else (key.node == count_of plan) && is_final_ready plan past) ∙ h)

  pub launch-held : (number : ℕ) → may_follow plan past (Launch key number) ≡ true → Held plan past key
  unfolding may_follow
  launch-held number h =
      let a = and_parts _ _ (and_parts _ _ h).0 in
      record { is_next = next-eq _ key a.1; parents = launch-parents (and_parts _ _ a.0).1 }

  pub end-among : (outcome : Outcome) → may_follow plan past (End key outcome) ≡ true → (is_among key (outstanding plan past) ≡ true) × (may_end_with (node_at plan key.node).course key.phase outcome ≡ true)
  unfolding may_follow
  end-among outcome h = let a = and_parts _ _ h in ((and_parts _ _ a.0).1, (and_parts _ _ a.1).1)

-- an ending
module _ (plan : Plan) (past : List Record) (key : Key) (outcome : Outcome) (s : Sound plan past) (held : Held plan past key) (ends : may_end_with (node_at plan key.node).course key.phase outcome ≡ true) where
  abbrev now : List Record
  now = End key outcome ∷ past

  other-history : (node : ℕ) → (key.node == node) ≡ false → history now node ≡ history past node
  other-history node ne = λ j. if ne j then history past node ++ got key.attempt key.phase outcome ∷ [] else history past node

  other-done : (node : ℕ) → (key.node == node) ≡ false → is_done plan now node ≡ is_done plan past node
  other-done node ne = λ j. (node_at plan node).done || is_good_after (node_at plan node).course (other-history node ne j)

  other-next : (node : ℕ) → (key.node == node) ≡ false → next plan now node ≡ next plan past node
  other-next node ne = λ j. if (node_at plan node).done then None else key_at node (next_after (node_at plan node).course (other-history node ne j))

  own-history : history now key.node ≡ history past key.node ++ got key.attempt key.phase outcome ∷ []
  own-history = λ j. if eq-eqb key.node key.node refl j then history past key.node ++ got key.attempt key.phase outcome ∷ [] else history past key.node

  next-is : ((node_at plan key.node).done ≡ false) × (next_after (node_at plan key.node).course (history past key.node) ≡ Some (key.attempt, key.phase))
  next-is = next-parts plan past key.node key held.is_next

  undone : (node_at plan key.node).done ≡ false
  undone = next-is.0

  stuck : is_done plan past key.node ≡ false
  unfolding is_good_after
  stuck = λ j. (undone j) || (is_none (next-is.1 j) && is_good (newest_attempt (attempts_after (node_at plan key.node).course (history past key.node))))

  end-done : (node : ℕ) → is_done plan past node ≡ true → is_done plan now node ≡ true
  end-done node e = go (key.node == node) refl
    where
      go : (b : Bool) → (key.node == node) ≡ b → is_done plan now node ≡ true
      go false ne = other-done node ne ∙ e
      go true same = absurd (false≢true (sym stuck ∙ ap (is_done plan past) (eqb-true key.node node same) ∙ e))

  end-parents : (node : ℕ) → ParentsDone plan past node → ParentsDone plan now node
  end-parents node = all-mono (is_done plan past) (is_done plan now) end-done (node_at plan node).parents

  end-held : (other : Key) → is_same key other ≡ false → Held plan past other → Held plan now other
  end-held other differs h = go (key.node == other.node) refl
    where
      go : (b : Bool) → (key.node == other.node) ≡ b → Held plan now other
      go false ne = record {
        is_next = other-next other.node ne ∙ h.is_next;
        parents = λ lt. end-parents other.node (h.parents lt);
      }
      go true same =
          let one : Some key ≡ Some other = sym held.is_next ∙ ap (next plan past) (eqb-true key.node other.node same) ∙ h.is_next in
          let k : key ≡ other = cc in
          absurd (false≢true (sym differs ∙ (λ j. is_same key (sym k j)) ∙ same-self key))

  end-fits : (node : ℕ) → Fits (node_at plan node).course (history now node) (outcome_in (history now node))
  end-fits node = go (key.node == node) refl
    where
      own : Fits (node_at plan key.node).course (history now key.node) (outcome_in (history now key.node))
      own =
          subst (λ es. Fits (node_at plan key.node).course es (outcome_in es)) (sym own-history)
          (fits-next (node_at plan key.node).course (history past key.node) (s.fits key.node) (got key.attempt key.phase outcome) next-is.1 ends)

      go : (b : Bool) → (key.node == node) ≡ b → Fits (node_at plan node).course (history now node) (outcome_in (history now node))
      go false ne = subst (λ es. Fits (node_at plan node).course es (outcome_in es)) (sym (other-history node ne)) (s.fits node)
      go true same = subst (λ m. Fits (node_at plan m).course (history now m) (outcome_in (history now m))) (eqb-true key.node node same) own

  end-idle : (node : ℕ) → (node_at plan node).done ≡ true → history now node ≡ []
  end-idle node done = go (key.node == node) refl
    where
      go : (b : Bool) → (key.node == node) ≡ b → history now node ≡ []
      go false ne = other-history node ne ∙ s.idle node done
      go true same = absurd (false≢true (sym undone ∙ ap (λ m. (node_at plan m).done) (eqb-true key.node node same) ∙ done))

  end-begun : (node : ℕ) → node < count_of plan → (history now node ≡ []) ⊎ ParentsDone plan now node
  end-begun node lt = go (key.node == node) refl
    where
      go : (b : Bool) → (key.node == node) ≡ b → (history now node ≡ []) ⊎ ParentsDone plan now node
      go false ne = elim (s.begun node lt) [ inl e ↦ inl (other-history node ne ∙ e) | inr e ↦ inr (end-parents node e) ]
      go true same =
          let n : key.node ≡ node = eqb-true key.node node same in
          inr (end-parents node (subst (ParentsDone plan past) n (held.parents (subst (λ m. m < count_of plan) (sym n) lt))))

  sound-end : Sound plan now
  sound-end = record {
    fits = end-fits;
    idle = end-idle;
    held = rest (is_aborted plan now && not (is_aborted plan past));
    begun = end-begun;
  }
    where
      rest : (b : Bool) → Each (Held plan now) (if b then [] else without key (outstanding plan past))
      rest true = tt
      rest false = each_without (Held plan past) (Held plan now) key end-held (outstanding plan past) s.held

sound-nil : (plan : Plan) → Sound plan []
sound-nil plan = record {
  fits = λ node. fits-nil (node_at plan node).course (outcome_in []);
  idle = λ node done. refl;
  held = tt;
  begun = λ node lt. inl refl;
}

pub sound : (plan : Plan) (records : List Record) → is_lawful plan records ≡ true → Sound plan records
sound plan [] h = sound-nil plan
sound plan (Life ∷ past) h = sound-silent plan past (Life ∷ past) (λ n. refl) (sound plan past (and_parts _ _ h).0) tt
sound plan (Launch key number ∷ past) h =
    let p = and_parts _ _ h in
    let s = sound plan past p.0 in
    sound-silent plan past (Launch key number ∷ past) (λ n. refl) s (launch-held plan past key number p.1, s.held)
sound plan (End key outcome ∷ past) h =
    let p = and_parts _ _ h in
    let s = sound plan past p.0 in
    let a = end-among plan past key outcome p.1 in
    sound-end plan past key outcome s (each_among (Held plan past) key (outstanding plan past) s.held a.0) a.1
sound plan (Finish status ∷ past) h =
    let s = sound plan past (and_parts _ _ h).0 in
    sound-silent plan past (Finish status ∷ past) (λ n. refl) s s.held
