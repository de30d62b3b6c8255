use Rattle.std.proofs.Common.{◌≡◌, ℕ, ◌-◌, List, [], ◌∷◌, ◌++◌, map, length, get_or, refl, sym, subst, ◌∙◌}
use Rattle.run_times.specs.declared.runs.PhaseRun.{PhaseRun}
use Rattle.run_times.specs.declared.load.Level.{Level}
use Rattle.run_times.specs.Slots.{run_end}
use Rattle.run_times.specs.Load.{AreInOrder, AreLevels, count_until, running_at}
use Rattle.run_times.proofs.Apart.{pushed-all}
use Rattle.run_times.proofs.Levels.{until-same}
use Rattle.run_times.proofs.load.levels_of.Goals as goal

-- the next level, by what was read and computed
next : (runs : List PhaseRun) (levels new : List Level) (begins ends begins_seen ends_seen : List ℕ) (level : Level) → AreInOrder (map (λ run. run.begun) runs) begins
    → AreInOrder (map run_end runs) ends → begins_seen ≡ begins → ends_seen ≡ ends → level.running ≡ count_until begins_seen level.moment - count_until ends_seen level.moment
    → new ≡ levels ++ (level ∷ []) → AreLevels runs levels → AreLevels runs new
next runs levels new begins ends begins_seen ends_seen level begun ended begins_is ends_is running new_is before =
    let begun_is = until-same (map (λ (run : PhaseRun). run.begun) runs) begins begun.same level.moment in
    let ended_is = until-same (map run_end runs) ends ended.same level.moment in
    let value : level.running ≡ running_at runs level.moment
    = running ∙ (λ j. count_until (begins_is j) level.moment - count_until (ends_is j) level.moment) ∙ (λ j. begun_is j - ended_is j) in
    subst (AreLevels runs) (sym new_is)
    (pushed-all (λ (i : ℕ) (one : Level). one.running ≡ running_at runs one.moment) levels level (length levels) refl before value)

pub loop-moment-preserved : goal.loop-moment-preserved
loop-moment-preserved c =
    next c.args.runs.now c.loop-moment.levels.items c.push.new.self.items c.in_ok-begins.begins.items c.in_ok-ends.ends.items c.deref-in-loop-moment.result.now
    c.deref-in-loop-moment-2.result.now (record { moment = get_or c.as_slice-moment-items.result.now c.loop-moment.moment-index 0; running = c.running_at-running.result })
    c.in_ok-begins.ensures c.in_ok-ends.ensures c.deref-in-loop-moment.ensures.value c.deref-in-loop-moment-2.ensures.value c.running_at-running.ensures c.in_ok-push.ensures.items
    c.loop-moment.invariant
