use Rattle.std.proofs.Common.{◌≡◌, ℕ, ◌+◌, ◌-◌, ◌<◌, List, map, length, get_or, add-one, sym, ap, ◌∙◌}
use Rattle.std.specs.Prelude.{max}
use Rattle.std.proofs.lemmas.Option.{slice_get-get_or}
use Rattle.run_times.specs.declared.runs.PhaseRun.{PhaseRun}
use Rattle.run_times.specs.Slots.{run_end}
use Rattle.run_times.specs.Load.{AreInOrder, count_until, most_running, running_at}
use Rattle.run_times.specs.Parts.{begun_in}
use Rattle.run_times.proofs.Levels.{until-same}
use Rattle.run_times.proofs.load.most_running.Goals as goal

-- how many ran when one began, by what was read and computed
running : (runs : List PhaseRun) (begins ends begins_seen ends_seen : List ℕ) (time value : ℕ) → AreInOrder (map (λ run. run.begun) runs) begins → AreInOrder (map run_end runs) ends
    → begins_seen ≡ begins → ends_seen ≡ ends → value ≡ count_until begins_seen time - count_until ends_seen time → value ≡ running_at runs time
running runs begins ends begins_seen ends_seen time value begun ended begins_is ends_is value_is =
    let begun_is = until-same (map (λ (run : PhaseRun). run.begun) runs) begins begun.same time in
    let ended_is = until-same (map run_end runs) ends ended.same time in
    value_is ∙ (λ j. count_until (begins_is j) time - count_until (ends_is j) time) ∙ (λ j. begun_is j - ended_is j)

-- one phase more
next : (runs : List PhaseRun) (i : ℕ) (d : PhaseRun) (most value new : ℕ) → i < length runs → most ≡ most_running runs i → value ≡ running_at runs (get_or runs i d).begun → new ≡ max most value
    → new ≡ most_running runs (i + 1)
next runs i d most value new inside most_is value_is new_is =
    rw add-one (new_is ∙ (λ j. max (most_is j) (value_is j)) ∙ ap (λ (time : ℕ). max (most_running runs i) (running_at runs time)) (sym (ap begun_in (slice_get-get_or runs i d inside))))

pub loop-run-preserved : goal.loop-run-preserved
loop-run-preserved c =
    next c.args.runs.now c.loop-run.run-index _ c.loop-run.most c.running_at.result c.max-most.result c.loop-run-test.true c.loop-run.invariant
    (running c.args.runs.now c.in_ok-begins.begins.items c.in_ok-ends.ends.items c.deref.result.now c.deref-in-loop-run.result.now _ c.running_at.result c.in_ok-begins.ensures c.in_ok-ends.ensures
    c.deref.ensures.value c.deref-in-loop-run.ensures.value c.running_at.ensures)
    c.max-most.ensures
