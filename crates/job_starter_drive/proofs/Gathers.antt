-- Endings that are gathered after one that is owed.
use Rattle.std.proofs.Common.{arith, ◌≡◌, ◌<◌, Bool, true, false, not, ◌&&◌, List, [], ◌∷◌, ◌++◌, length, refl, sym, ap, ◌∙◌, subst}
use Rattle.std.proofs.lemmas.Bool.{and_parts, and_from, not-true}
use Rattle.node_machine.specs.declared.Key.{Key}
use Rattle.node_machine.specs.declared.Outcome.{Outcome}
use Rattle.throttles.specs.declared.Limits.{Limits}
use Rattle.run_plan.specs.Plan.{Plan}
use Rattle.node_machine.specs.declared.Record.{Record}
use Rattle.node_machine.specs.declared.Record.TheVariants.{End}
use Rattle.sched_core.specs.Run.{is_among, is_lawful, is_open, may_follow, outstanding}
use Rattle.sched_core.specs.Ahead.{added, ends_of}
use Rattle.sched_core.specs.Looks.{stops}
use Rattle.sched_core.proofs.Ended.{goes_on, behind, stops-behind}
use Rattle.job_starter_drive.specs.declared.Call.{Call}
use Rattle.job_starter_drive.specs.declared.Call.TheVariants as calls
use Rattle.job_starter_drive.specs.Calls.{running, Telling, AllowsNoMore, IsReportedEnding}
use Rattle.job_starter_drive.specs.Drives.{most_at_once, Standing, At, at_rest, AreInStep, AreUnderWay, MayEndAll, IsHeld, none_aborts, IsStep, child_exits, child_gathered, Goes, no_step, one_more}
use Rattle.job_starter_drive.proofs.Steps.{end-may-follow}
use Rattle.job_starter_drive.proofs.Turns.{end-kept}
use Rattle.job_starter_drive.proofs.Walks.{goes-then}

-- one more that aborts nothing
pub none-more : (plan : Plan) (past : List Record) (owed : List (Key × Outcome)) (end : Key × Outcome) → none_aborts plan past owed ≡ true
    → stops plan (added past (ends_of owed)) (End end.0 end.1) ≡ false → none_aborts plan past (owed ++ end ∷ []) ≡ true
none-more plan past [] end none on = λ j. not (on j) && true
none-more plan past (first ∷ owed) end none on =
    let p = and_parts _ _ none in and_from _ _ p.0 (none-more plan (End first.0 first.1 ∷ past) owed end p.1 on)

-- endings that are owed and abort nothing go on
pub owed-go-on : (plan : Plan) (past : List Record) (owed : List (Key × Outcome)) → is_open past ≡ true → MayEndAll plan (outstanding plan past) owed
    → none_aborts plan past owed ≡ true → goes_on plan past owed ≡ true
unfolding goes_on
owed-go-on plan past [] going ends none = refl
owed-go-on plan past (end ∷ owed) going ends none =
    let p = and_parts _ _ none in
    let kept = end-kept plan past end.0 end.1 (not-true _ p.0) in
    and_from _ _ (and_from _ _ (end-may-follow plan past end.0 end.1 going ends.0 ends.1 ends.2) p.0)
    (owed-go-on plan (End end.0 end.1 ∷ past) owed refl (subst (λ (l : List Key). MayEndAll plan l owed) (sym kept) ends.3) p.1)

-- the last of them may follow the others
last-follows : (plan : Plan) (past : List Record) (owed : List (Key × Outcome)) (end : Key × Outcome) → is_open past ≡ true
    → MayEndAll plan (outstanding plan past) (owed ++ end ∷ []) → none_aborts plan past owed ≡ true → may_follow plan (added past (ends_of owed)) (End end.0 end.1) ≡ true
last-follows plan past [] end going ends none = end-may-follow plan past end.0 end.1 going ends.0 ends.1 ends.2
last-follows plan past (first ∷ owed) end going ends none =
    let p = and_parts _ _ none in
    let kept = end-kept plan past first.0 first.1 (not-true _ p.0) in
    last-follows plan (End first.0 first.1 ∷ past) owed end refl (subst (λ (l : List Key). MayEndAll plan l (owed ++ end ∷ [])) (sym kept) ends.3) p.1

-- it aborts the run there as it would alone
pub aborts-there : (plan : Plan) (past : List Record) (owed : List (Key × Outcome)) (end : Key × Outcome) → is_lawful plan past ≡ true → is_open past ≡ true
    → MayEndAll plan (outstanding plan past) owed → MayEndAll plan (outstanding plan past) (owed ++ end ∷ []) → none_aborts plan past owed ≡ true
    → stops plan (added past (ends_of owed)) (End end.0 end.1) ≡ stops plan past (End end.0 end.1)
aborts-there plan past owed end lawful going ends all none =
    stops-behind plan past owed (added past (ends_of owed)) (behind plan past owed lawful (owed-go-on plan past owed going ends none)) end.0 end.1
    (last-follows plan past owed end going all none)

module _ (limits : Limits) (plan : Plan) (may : Telling) (past : List Record) (call_log : List Call) where
  pub gather-step : (owed : List (Key × Outcome)) (key : Key) (outcome : Outcome) → 0 < length owed → may.gathers → AreUnderWay plan past call_log [] owed
      → IsHeld limits plan past call_log → none_aborts plan past owed ≡ true → length owed < most_at_once → is_among key (running call_log) ≡ true
      → may.may_be call_log key outcome
      → IsStep limits plan may (At past call_log [] owed) (At past (calls.Ended key outcome ∷ call_log) [] (owed ++ (key, outcome) ∷ []))
  gather-step [] key outcome some gathers way held on few ran may_be = absurd (omega (arith, some))
  gather-step (end ∷ owed) key outcome some gathers way held on few ran may_be = child_gathered gathers way held on few ran may_be

-- a child was waited for, and others that had ended were gathered
pub ended-goes : (limits : Limits) (plan : Plan) (may may' : Telling) → AllowsNoMore may may' → (past : List Record) (call_log first_log later_log : List Call) (end : Key × Outcome)
    (one owed : List (Key × Outcome)) → AreInStep plan past call_log → IsHeld limits plan past call_log → IsReportedEnding may call_log first_log end → one ≡ end ∷ []
    → Goes limits plan may' (At past first_log [] one) (At past later_log [] owed) → Goes limits plan may (at_rest past call_log) (At past later_log [] owed)
ended-goes limits plan may may' allows past call_log first_log later_log end one owed step held answer is more =
    goes-then limits plan may may' allows (at_rest past call_log) (At past first_log [] one) (At past later_log [] owed)
    (subst (λ (o : List (Key × Outcome)). Goes limits plan may (at_rest past call_log) (At past first_log [] o)) (sym is)
    (subst (λ (l : List Call). Goes limits plan may (at_rest past call_log) (At past l [] (end ∷ []))) (sym answer.entry)
    (one_more no_step (child_exits step held answer.halt answer.ran answer.may_be)))) more
