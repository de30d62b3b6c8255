use Rattle.std.proofs.Common.{arith, rules, ◌≡◌, ◌∙◌, ◌∷◌, List, [], refl, sym, subst}
use Rattle.node_machine.specs.declared.Key.{Key}
use Rattle.node_machine.specs.declared.Outcome.{Outcome}
use Rattle.node_machine.specs.declared.Record.{Record}
use Rattle.sched_core.specs.Run.{outstanding}
use Rattle.recovery_manager.specs.Managed.{plan_of, past_of}
use Rattle.job_starter_drive.specs.declared.Call.{Call}
use Rattle.job_starter_drive.specs.Causes.{no_ending_logged}
use Rattle.job_starter_drive.specs.Drives.{At, at_rest, limits_of, AreUnderWay, IsHeld, IsTurn, Goes, no_step, none_told}
use Rattle.job_starter_drive.proofs.Counting.{wait-counts}
use Rattle.job_starter_drive.proofs.Gathers.{ended-goes}
use Rattle.job_starter_drive.proofs.RoundTurns.{ends-turn}
use Rattle.job_starter_drive.proofs.Steps.{on-ok, if-err, some_child}
use Rattle.job_starter_drive.proofs.Stretches.{stretch-still, stretch-on, cut-on, cut-still}
use Rattle.job_starter_drive.proofs.Walks.{allows-then}
use Rattle.job_starter_drive.proofs.Ways.{way-call_log}
use Rattle.job_starter_drive.proofs.driving.end_some.Goals as goal

pub returns-in-Err-clause-cut : goal.returns-in-Err-clause-cut
returns-in-Err-clause-cut g c =
    let plan = plan_of c.args.manager.now in
    let past = past_of c.args.manager.now in
    let limits = limits_of c.args.manager.now in
    let may = g.S.Starter.may_return in
    let count = g.S.Starter.faults in
    let call_log = g.S.Starter.call_log in
    let old = c.args.manager.now in
    let from = at_rest past (call_log c.args.starter.now) in
    let silent = c.in-Err.ensures.refused in
    let later_log = call_log c.wait_any.new.self in
    cut-still g.D.Disk g.met.D.Disk.only_now limits plan (may c.args.starter.now) (may c.wait_any.new.self) (count c.args.starter.now) (count c.wait_any.new.self) old from refl refl c.keeps_the_law.ensures c.in-Err.ensures.may
    [] [] later_log _
    (subst (λ (l : List Call). Goes limits plan (may c.args.starter.now) from (at_rest past l)) (sym silent) no_step)
    (none_told (subst (IsHeld limits plan past) (sym silent) c.requires.held) c.requires.some)
    c.in-Err.ensures.later
    (no_ending_logged (wait-counts _ _ _ c.in-Err.field-0 (λ none. some_child (outstanding plan past) c.requires.some (sym c.requires.in_step.same ∙ none)) c.in-Err.ensures.err))

pub gather-requires-clause-held : goal.gather-requires-clause-held
gather-requires-clause-held g c =
    subst (IsHeld (limits_of c.args.manager.now) (plan_of c.args.manager.now) (past_of c.args.manager.now)) (sym c.in-Ok.ensures.ended.entry) c.requires.held

pub gather-requires-clause-under_way : goal.gather-requires-clause-under_way
gather-requires-clause-under_way g c =
    let plan = plan_of c.args.manager.now in
    let past = past_of c.args.manager.now in
    let call_log = g.S.Starter.call_log in
    let key = c.in-Ok.end.0 in
    let outcome = c.in-Ok.end.1 in
    let e = c.in-Ok.ensures in
    let one : c.push.new.self.items ≡ (key, outcome) ∷ [] = search rules in
    subst (λ (o : List (Key × Outcome)). AreUnderWay plan past (call_log c.wait_any.new.self) [] o) (sym one)
    (subst (λ (l : List Call). AreUnderWay plan past l [] ((key, outcome) ∷ [])) (sym e.ended.entry)
    (way-call_log plan past (call_log c.args.starter.now) key outcome c.requires.in_step e.ended.ran e.ended.possible))

pub returns-clause-turn : goal.returns-clause-turn
returns-clause-turn g c =
    let plan = plan_of c.args.manager.now in
    let past = past_of c.args.manager.now in
    let call_log = g.S.Starter.call_log in
    let way : AreUnderWay plan past (call_log c.will_record.new.self) [] c.deref.result.now =
    subst (λ (o : List (Key × Outcome)). AreUnderWay plan past (call_log c.will_record.new.self) [] o) (sym c.deref.ensures.value)
    (subst (λ (l : List Call). AreUnderWay plan past l [] c.gather.new.owed.items) (sym c.will_record.ensures.call_log) c.gather.ensures.under_way) in
    on-ok c.record_reported.result _ _
    (λ is. subst (λ (l : List Record). IsTurn plan past l (call_log c.will_record.new.self)) (sym is)
    (ends-turn plan past (call_log c.will_record.new.self) c.deref.result.now c.keeps_the_law.ensures c.requires.going way)) c.record_reported.ensures.past

pub returns-clause-went : goal.returns-clause-went
returns-clause-went g c =
    let plan = plan_of c.args.manager.now in
    let past = past_of c.args.manager.now in
    let limits = limits_of c.args.manager.now in
    let may = g.S.Starter.may_return in
    let count = g.S.Starter.faults in
    let call_log = g.S.Starter.call_log in
    let old = c.args.manager.now in
    let from = at_rest past (call_log c.args.starter.now) in
    let key = c.in-Ok.end.0 in
    let outcome = c.in-Ok.end.1 in
    let e = c.in-Ok.ensures in
    let one : c.push.new.self.items ≡ (key, outcome) ∷ [] = search rules in
    let owed = c.deref.result.now in
    let last = c.will_record.new.self in
    let last_log = call_log last in
    let steps : Goes limits plan (may c.args.starter.now) from (At past last_log [] owed) =
    subst (λ (o : List (Key × Outcome)). Goes limits plan (may c.args.starter.now) from (At past last_log [] o)) (sym c.deref.ensures.value)
    (subst (λ (l : List Call). Goes limits plan (may c.args.starter.now) from (At past l [] c.gather.new.owed.items)) (sym c.will_record.ensures.call_log)
    (ended-goes limits plan (may c.args.starter.now) (may c.wait_any.new.self) e.may past (call_log c.args.starter.now) (call_log c.wait_any.new.self) (call_log c.gather.new.starter) c.in-Ok.end
    c.push.new.self.items c.gather.new.owed.items c.requires.in_step c.requires.held e.ended one c.gather.ensures.steps)) in
    let allows = allows-then (may c.args.starter.now) (may c.wait_any.new.self) (may last) e.may
    (allows-then (may c.wait_any.new.self) (may c.gather.new.starter) (may last) c.gather.ensures.may c.will_record.ensures.may) in
    let first = stretch-still g.D.Disk g.met.D.Disk.only_now limits plan (may c.args.starter.now) (may last) (count c.args.starter.now) (count last) old from refl refl c.keeps_the_law.ensures allows
    (At past last_log [] owed) refl steps (c.will_record.ensures.counts ∙ c.gather.ensures.counts ∙ e.counts) in
    on-ok c.record_reported.result _ _
    (stretch-on g.D.Disk limits plan (may c.args.starter.now) (may last) (may last) (count c.args.starter.now) (count last) (count last) old old c.record_reported.new.manager from (At past last_log [] owed) first
    (at_rest (past_of c.record_reported.new.manager) last_log)) c.record_reported.ensures.went

pub returns-clause-cut : goal.returns-clause-cut
returns-clause-cut g c =
    let plan = plan_of c.args.manager.now in
    let past = past_of c.args.manager.now in
    let limits = limits_of c.args.manager.now in
    let may = g.S.Starter.may_return in
    let count = g.S.Starter.faults in
    let call_log = g.S.Starter.call_log in
    let old = c.args.manager.now in
    let from = at_rest past (call_log c.args.starter.now) in
    let key = c.in-Ok.end.0 in
    let outcome = c.in-Ok.end.1 in
    let e = c.in-Ok.ensures in
    let one : c.push.new.self.items ≡ (key, outcome) ∷ [] = search rules in
    let owed = c.deref.result.now in
    let last = c.will_record.new.self in
    let last_log = call_log last in
    let steps : Goes limits plan (may c.args.starter.now) from (At past last_log [] owed) =
    subst (λ (o : List (Key × Outcome)). Goes limits plan (may c.args.starter.now) from (At past last_log [] o)) (sym c.deref.ensures.value)
    (subst (λ (l : List Call). Goes limits plan (may c.args.starter.now) from (At past l [] c.gather.new.owed.items)) (sym c.will_record.ensures.call_log)
    (ended-goes limits plan (may c.args.starter.now) (may c.wait_any.new.self) e.may past (call_log c.args.starter.now) (call_log c.wait_any.new.self) (call_log c.gather.new.starter) c.in-Ok.end
    c.push.new.self.items c.gather.new.owed.items c.requires.in_step c.requires.held e.ended one c.gather.ensures.steps)) in
    let allows = allows-then (may c.args.starter.now) (may c.wait_any.new.self) (may last) e.may
    (allows-then (may c.wait_any.new.self) (may c.gather.new.starter) (may last) c.gather.ensures.may c.will_record.ensures.may) in
    let first = stretch-still g.D.Disk g.met.D.Disk.only_now limits plan (may c.args.starter.now) (may last) (count c.args.starter.now) (count last) old from refl refl c.keeps_the_law.ensures allows
    (At past last_log [] owed) refl steps (c.will_record.ensures.counts ∙ c.gather.ensures.counts ∙ e.counts) in
    if-err c.record_reported.result _ _
    (cut-on g.D.Disk limits plan (may c.args.starter.now) (may last) (may last) (count c.args.starter.now) (count last) (count last) old old c.record_reported.new.manager from (At past last_log [] owed) first
    last_log) c.record_reported.ensures.cut
