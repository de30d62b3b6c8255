use Rattle.std.proofs.Common.{◌≡◌, ◌∙◌, Bool, true, false, List, ◌∷◌, refl, sym, subst}
use Rattle.job_starter_drive.specs.declared.Call.{Call}
use Rattle.job_starter_drive.specs.declared.Call.TheVariants as calls
use Rattle.job_starter_drive.specs.Calls.{is_halt_seen, any_ending, AsksForHalt, as_before, seen_now}
use Rattle.job_starter_local.proofs.LocalSystemSystem.sees_halt.Goals as goal

pub returns-then-is_halted-clause-asked : goal.returns-then-is_halted-clause-asked
returns-then-is_halted-clause-asked g c = as_before

pub returns-then-not-halts-clause-asked : goal.returns-then-not-halts-clause-asked
returns-then-not-halts-clause-asked g c = as_before

-- where it is noted, it is seen now
asked : (call_log later_log : List Call) → is_halt_seen call_log ≡ false → (noted : Bool) → (noted ≡ true → later_log ≡ calls.HaltSeen ∷ call_log)
    → (noted ≡ false → later_log ≡ call_log) → AsksForHalt any_ending call_log later_log
asked call_log later_log unhalted true seen same = subst (AsksForHalt any_ending call_log) (sym (seen refl)) (seen_now tt unhalted)
asked call_log later_log unhalted false seen same = subst (AsksForHalt any_ending call_log) (sym (same refl)) as_before

pub returns-clause-asked : goal.returns-clause-asked
returns-clause-asked g c =
    asked _ _ (sym c.is_halted.ensures ∙ c.if-is_halted.false) c.see_halt.result c.see_halt.ensures.seen c.see_halt.ensures.same
