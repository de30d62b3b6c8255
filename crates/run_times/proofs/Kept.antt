-- Slots, phase by phase.
use Rattle.std.proofs.Common.{◌≡◌, ◌≢◌, ℕ, ◌+◌, ◌<◌, ◌≤◌, ◌⊎◌, inl, inr, Bool, true, false, cond, nat_lt, List, [], ◌∷◌, ◌++◌, set, length, length-append, length-set, get_or, Some, refl, sym, ap, subst, ◌∙◌, arith}
use Rattle.std.specs.Prelude.{slice_get}
use Rattle.std.proofs.lemmas.List.{get_or_append_left, get_or-set_same, get_or-set_other}
use Rattle.std.proofs.Math.Seq.{get_or-append_seam}
use Rattle.std.proofs.lemmas.Option.{same_Some}
use Rattle.std.proofs.lemmas.Bool.{cases_lt, cases_eq, ltb-true, ltb-false}
use Rattle.run_times.specs.declared.runs.PhaseRun.{PhaseRun}
use Rattle.run_times.specs.Slots.{run_end, EndsBefore, IsFreeSlot, occupied, IsOver, AreSlotsSoFar}

-- the index after the last of a list that an item is added to
pushed : (xs : List ℕ) (x k : ℕ) → k ≡ length xs → get_or (xs ++ x ∷ []) k 0 ≡ x
pushed xs x k end = subst (λ (n : ℕ). get_or (xs ++ x ∷ []) n 0 ≡ x) (sym end) (get_or-append_seam xs x [] 0)

-- what a slot that is occupied leaves of the others
module _ (free : List ℕ) (slot until : ℕ) (there : slot ≤ length free) where
  abbrev taken : Bool → List ℕ
  taken b = cond b (set free slot until) (free ++ (until ∷ []))

  longer : (b : Bool) → nat_lt slot (length free) ≡ b → (length free ≤ length (taken b)) × (slot < length (taken b))
  longer true is =
      let less = ltb-true slot (length free) is in
      (omega (arith, length-set free slot until), omega (arith, less, length-set free slot until))
  longer false is = (omega (arith, length-append free (until ∷ [])), omega (arith, there, length-append free (until ∷ [])))

  at_slot : (b : Bool) → nat_lt slot (length free) ≡ b → get_or (taken b) slot 0 ≡ until
  at_slot true is = get_or-set_same free slot until 0 (ltb-true slot (length free) is)
  at_slot false is = pushed free until slot (let most = ltb-false slot (length free) is in omega (arith, most, there))

  at_other : (b : Bool) (k : ℕ) → k < length free → k ≢ slot → get_or (taken b) k 0 ≡ get_or free k 0
  at_other true k within other = get_or-set_other free slot k until 0 other
  at_other false k within other = get_or_append_left free (until ∷ []) 0 k within

  pub occupied_length : (length free ≤ length (occupied free slot until)) × (slot < length (occupied free slot until))
  occupied_length = longer (nat_lt slot (length free)) refl

  pub occupied_there : get_or (occupied free slot until) slot 0 ≡ until
  occupied_there = at_slot (nat_lt slot (length free)) refl

  pub occupied_other : (k : ℕ) → k < length free → k ≢ slot → get_or (occupied free slot until) k 0 ≡ get_or free k 0
  occupied_other = at_other (nat_lt slot (length free))

or_last : {n : ℕ} (i : ℕ) → i < n + 1 → (i < n) ⊎ (i ≡ n)
or_last {n} i within = by (cases_lt i n)
  where
    by : (i < n) ⊎ (n ≤ i) → (i < n) ⊎ (i ≡ n)
    by (inl less) = inl less
    by (inr most) = inr (omega (arith, within, most))

-- the next phase takes a slot that is free when it begins
module _ (runs : List PhaseRun) (slots free : List ℕ) (n slot : ℕ) (run : PhaseRun) (kept : AreSlotsSoFar runs slots free n) (here : slice_get runs n ≡ Some run)
    (lasts : run.begun ≤ run_end run) (is_free : IsFreeSlot free run.begun slot) where
  abbrev slots' : List ℕ
  slots' = slots ++ (slot ∷ [])

  abbrev free' : List ℕ
  free' = occupied free slot (run_end run)

  old : (i : ℕ) → i < n → get_or slots' i 0 ≡ get_or slots i 0
  old i before = get_or_append_left slots (slot ∷ []) 0 i (omega (arith, before, kept.each))

  new : get_or slots' n 0 ≡ slot
  new = pushed slots slot n (sym kept.each)

  below_next : (i : ℕ) → (i < n) ⊎ (i ≡ n) → get_or slots' i 0 < length free'
  below_next i (inl before) = let o = old i before in let b = kept.below i before in let l = (occupied_length free slot (run_end run) is_free.there).0 in omega (arith, o, b, l)
  below_next i (inr is) = let l = (occupied_length free slot (run_end run) is_free.there).1 in
      subst (λ (k : ℕ). get_or slots' k 0 < length free') (sym is) (omega (arith, new, l))

  follows_over : (one : PhaseRun) → slot < length free → IsOver one (get_or free slot 0) → EndsBefore one run
  follows_over one there over = let since = is_free.since there in record { began = omega (arith, since, over.began); ended = omega (arith, since, over.ended) }

  over_at : (k : ℕ) (one : PhaseRun) → k < length free → IsOver one (get_or free k 0) → (k ≡ slot) ⊎ (k ≡ slot → ⊥) → IsOver one (get_or free' k 0)
  over_at k one within over (inl same) =
      let follows = follows_over one (subst (λ (m : ℕ). m < length free) same within) (subst (λ (m : ℕ). IsOver one (get_or free m 0)) same over) in
      subst (λ (m : ℕ). IsOver one (get_or free' m 0)) (sym same)
      (subst (IsOver one) (sym (occupied_there free slot (run_end run) is_free.there))
      (record { began = omega (arith, follows.began, lasts); ended = omega (arith, follows.ended, lasts) }))
  over_at k one within over (inr other) =
      subst (IsOver one) (sym (occupied_other free slot (run_end run) is_free.there k within other)) over

  over_new : (one : PhaseRun) → slice_get runs n ≡ Some one → IsOver one (get_or free' slot 0)
  over_new one at =
      let same : run ≡ one = same_Some run one (sym here ∙ at) in
      subst (λ (r : PhaseRun). IsOver r (get_or free' slot 0)) same
      (subst (IsOver run) (sym (occupied_there free slot (run_end run) is_free.there)) (record { began = lasts; ended = omega arith }))

  over_next : (i : ℕ) → (i < n) ⊎ (i ≡ n) → (one : PhaseRun) → slice_get runs i ≡ Some one → IsOver one (get_or free' (get_or slots' i 0) 0)
  over_next i (inl before) one at =
      subst (λ (k : ℕ). IsOver one (get_or free' k 0)) (sym (old i before))
      (over_at (get_or slots i 0) one (kept.below i before) (kept.over i before one at) (cases_eq (get_or slots i 0) slot))
  over_next i (inr is) one at =
      subst (λ (k : ℕ). IsOver one (get_or free' (get_or slots' k 0) 0)) (sym is)
      (subst (λ (k : ℕ). IsOver one (get_or free' k 0)) (sym new) (over_new one (subst (λ (k : ℕ). slice_get runs k ≡ Some one) is at)))

  apart_next : (i j : ℕ) → i < j → (j < n) ⊎ (j ≡ n) → (one other : PhaseRun) → slice_get runs i ≡ Some one → slice_get runs j ≡ Some other
      → get_or slots' i 0 ≡ get_or slots' j 0 → EndsBefore one other
  apart_next i j less (inl before) one other at_one at_other same =
      kept.apart i j less before one other at_one at_other (sym (old i (omega (arith, less, before))) ∙ same ∙ old j before)
  apart_next i j less (inr is) one other at_one at_other same =
      let early : i < n = omega (arith, less, is) in
      let slot_is : get_or slots i 0 ≡ slot = sym (old i early) ∙ same ∙ ap (λ (k : ℕ). get_or slots' k 0) is ∙ new in
      let run_is : run ≡ other = same_Some run other (sym here ∙ ap (slice_get runs) (sym is) ∙ at_other) in
      subst (EndsBefore one) run_is (follows_over one (subst (λ (k : ℕ). k < length free) slot_is (kept.below i early))
      (subst (λ (k : ℕ). IsOver one (get_or free k 0)) slot_is (kept.over i early one at_one)))

  pub kept_next : AreSlotsSoFar runs (slots ++ (slot ∷ [])) (occupied free slot (run_end run)) (n + 1)
  kept_next = record {
    each = omega (arith, kept.each, length-append slots (slot ∷ []));
    below = λ i within. below_next i (or_last i within);
    over = λ i within one at. over_next i (or_last i within) one at;
    apart = λ i j less within one other at_one at_other same. apart_next i j less (or_last j within) one other at_one at_other same;
  }
