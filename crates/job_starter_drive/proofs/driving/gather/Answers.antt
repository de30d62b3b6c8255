use Rattle.std.proofs.Common.{arith, rules, ◌≡◌, ◌∙◌, ◌++◌, ◌<◌, [], ◌∷◌, List, length, refl, sym, ap, subst, false}
use Rattle.node_machine.specs.declared.Key.{Key}
use Rattle.node_machine.specs.declared.Outcome.{Outcome}
use Rattle.sched_core.specs.Run.{outstanding}
use Rattle.recovery_manager.specs.Managed.{plan_of, past_of}
use Rattle.job_starter_drive.specs.declared.Call.{Call}
use Rattle.job_starter_drive.specs.Drives.{limits_of, At, AreUnderWay, IsHeld, MayEndAll, none_aborts, Goes, no_step, one_more}
use Rattle.job_starter_drive.proofs.Gathers.{none-more, gather-step, aborts-there}
use Rattle.job_starter_drive.proofs.Steps.{end-may-follow}
use Rattle.job_starter_drive.proofs.Walks.{allows-self, allows-then}
use Rattle.job_starter_drive.proofs.Ways.{way-gathered, way-follows}
use Rattle.job_starter_drive.proofs.driving.gather.Goals as goal

pub aborts_with-aborts-requires : goal.aborts_with-aborts-requires
aborts_with-aborts-requires g c =
    let plan = plan_of c.args.manager.now in
    let past = past_of c.args.manager.now in
    let first = subst (MayEndAll plan (outstanding plan past)) c.requires.one c.requires.under_way.ends in
    end-may-follow plan past c.args.end.0 c.args.end.1 c.requires.going first.0 first.1 first.2

pub loop-aborts-init : goal.loop-aborts-init
loop-aborts-init g c =
    let plan = plan_of c.args.manager.now in
    let past = past_of c.args.manager.now in
    record {
      some = (let size = ap length c.requires.one in omega (arith, size));
      room = omega arith;
      on = λ on. ap (none_aborts plan past) c.requires.one ∙ none-more plan past [] c.args.end refl (sym c.aborts_with-aborts.ensures ∙ on);
      held = c.requires.held;
      under_way = c.requires.under_way;
      steps = no_step;
      counts = refl;
      may = (allows-self (g.S.Starter.may_return c.args.starter.now));
    }

pub aborts_with-aborts-requires-in-Some : goal.aborts_with-aborts-requires-in-Some
aborts_with-aborts-requires-in-Some g c =
    let plan = plan_of c.args.manager.now in
    let past = past_of c.args.manager.now in
    let i = c.loop-aborts.invariant in
    let e = c.in-Some.ensures in
    way-follows plan past (g.S.Starter.call_log c.loop-aborts.starter) c.loop-aborts.owed.items i.under_way c.in-Some.key c.in-Some.outcome e.ended.ran e.ended.possible c.requires.going

pub loop-aborts-preserved : goal.loop-aborts-preserved
loop-aborts-preserved g c =
    let plan = plan_of c.args.manager.now in
    let past = past_of c.args.manager.now in
    let limits = limits_of c.args.manager.now in
    let may = g.S.Starter.may_return in
    let call_log = g.S.Starter.call_log in
    let i = c.loop-aborts.invariant in
    let e = c.in-Some.ensures in
    let key = c.in-Some.key in
    let outcome = c.in-Some.outcome in
    let owed = c.loop-aborts.owed.items in
    let later_log = call_log c.take_ended.new.self in
    let more : c.push.new.self.items ≡ owed ++ (key, outcome) ∷ [] = search rules in
    let few : length owed < 64 = search rules in
    let none = i.on c.loop-aborts-test.true in
    let way = way-gathered plan past (call_log c.loop-aborts.starter) owed i.under_way key outcome e.ended.ran e.ended.possible few in
    record {
      some = (let size = ap length more in search rules);
      room = search rules;
      on = λ on. ap (none_aborts plan past) more ∙ none-more plan past owed (key, outcome) none
          (aborts-there plan past owed (key, outcome) c.keeps_the_law.ensures c.requires.going i.under_way.ends way.ends none ∙ sym c.aborts_with-aborts-in-Some.ensures ∙ on);
      held = subst (IsHeld limits plan past) (sym e.ended.entry) i.held;
      under_way = subst (λ (l : List (Key × Outcome)). AreUnderWay plan past later_log [] l) (sym more)
          (subst (λ (l : List Call). AreUnderWay plan past l [] (owed ++ (key, outcome) ∷ [])) (sym e.ended.entry) way);
      steps = subst (λ (l : List (Key × Outcome)). Goes limits plan (may c.args.starter.now) (At past (call_log c.args.starter.now) [] c.args.owed.now.items) (At past later_log [] l)) (sym more)
          (subst (λ (l : List Call). Goes limits plan (may c.args.starter.now) (At past (call_log c.args.starter.now) [] c.args.owed.now.items) (At past l [] (owed ++ (key, outcome) ∷ []))) (sym e.ended.entry)
          (one_more i.steps
          (gather-step limits plan (may c.args.starter.now) past (call_log c.loop-aborts.starter) owed key outcome i.some (i.may.1 e.gathers) i.under_way i.held
          none few e.ended.ran (i.may.0 (call_log c.loop-aborts.starter) key outcome e.ended.may_be))));
      counts = e.counts ∙ i.counts;
      may = allows-then (may c.args.starter.now) (may c.loop-aborts.starter) (may c.take_ended.new.self) i.may e.may;
    }
