use Rattle.std.proofs.Common.{◌≡◌, ℕ, ◌+◌, ◌<◌, ◌≤◌, List, [], ◌∷◌, ◌++◌, length, get_or, sym, ap, subst, ◌∙◌, arith}
use Rattle.std.proofs.lemmas.Option.{slice_get-get_or}
use Rattle.run_times.specs.declared.runs.PhaseRun.{PhaseRun}
use Rattle.run_times.specs.Slots.{run_end, IsFreeSlot, occupied, AreSlotsSoFar}
use Rattle.run_times.proofs.Kept.{kept_next}
use Rattle.run_times.proofs.slots.slots_of.Goals as goal

-- the next slot, by what was read and computed
next : (runs : List PhaseRun) (slots free : List ℕ) (n slot : ℕ) (d : PhaseRun) (end : ℕ) (seen slots' free' : List ℕ) → AreSlotsSoFar runs slots free n → n < length runs
    → IsFreeSlot seen (get_or runs n d).begun slot → seen ≡ free → end ≡ run_end (get_or runs n d) → (get_or runs n d).begun ≤ end → slots' ≡ slots ++ (slot ∷ [])
    → free' ≡ occupied free slot end → AreSlotsSoFar runs slots' free' (n + 1)
next runs slots free n slot d end seen slots' free' kept inside is_free seen_is end_is after slots_is free_is =
    subst (λ (xs : List ℕ). AreSlotsSoFar runs xs free' (n + 1)) (sym slots_is)
    (subst (λ (xs : List ℕ). AreSlotsSoFar runs (slots ++ (slot ∷ [])) xs (n + 1)) (sym (free_is ∙ ap (occupied free slot) end_is))
    (kept_next runs slots free n slot (get_or runs n d) kept (slice_get-get_or runs n d inside) (subst (λ (k : ℕ). (get_or runs n d).begun ≤ k) end_is after)
    (subst (λ (xs : List ℕ). IsFreeSlot xs (get_or runs n d).begun slot) seen_is is_free)))

pub loop-run-preserved : goal.loop-run-preserved
loop-run-preserved c =
    next c.args.runs.now c.loop-run.of.items c.loop-run.free.items c.loop-run.run-index c.free_slot-slot.result _ c.end.result c.deref.result.now c.push.new.self.items c.occupy.new.free.items
    c.loop-run.invariant c.loop-run-test.true c.free_slot-slot.ensures c.deref.ensures.value c.end.ensures.is c.end.ensures.after c.in_ok-push.ensures.items c.in_ok-occupy.ensures

pub returns : goal.returns
returns c =
    let end : c.loop-run.run-index ≡ length c.args.runs.now = omega (arith, c.loop-run-test.false, c.loop-run.auto.run-index-end) in
    let kept = subst (AreSlotsSoFar c.args.runs.now c.loop-run.of.items c.loop-run.free.items) end c.loop-run.invariant in
    record {
      each = kept.each;
      below = λ i within. let below = kept.below i within in let len = c.len.ensures in let ok = c.loop-run.free.ok in omega (arith, below, len, ok);
      apart = kept.apart;
    }
