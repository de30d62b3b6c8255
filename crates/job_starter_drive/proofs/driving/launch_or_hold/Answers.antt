use Rattle.std.proofs.Common.{arith, rules, ◌≡◌, ◌<◌, ◌∙◌, List, [], length, inr, refl, sym, ap}
use Rattle.node_machine.specs.declared.Key.{Key}
use Rattle.sched_core.specs.Run.{is_nothing, outstanding}
use Rattle.recovery_manager.specs.Managed.{plan_of, past_of}
use Rattle.job_starter_drive.specs.Causes.{run_halted}
use Rattle.job_starter_drive.specs.Drives.{at_rest, limits_of, halted}
use Rattle.job_starter_drive.proofs.Steps.{nobody-runs, somebody-runs, on-ok, if-err, open-going}
use Rattle.job_starter_drive.proofs.Stretches.{cut-still, stretch-asked, stretch-then, stretch-cut}
use Rattle.job_starter_drive.proofs.Walks.{goes-asked, step-asked}
use Rattle.job_starter_drive.proofs.driving.launch_or_hold.Goals as goal

pub launch_rounds-requires-clause-in_step : goal.launch_rounds-requires-clause-in_step
launch_rounds-requires-clause-in_step g c =
    let plan = plan_of c.args.manager.now in
    let past = past_of c.args.manager.now in
    let limits = limits_of c.args.manager.now in
    let may = g.S.Starter.may_return in
    let count = g.S.Starter.faults in
    let call_log = g.S.Starter.call_log in
    let old = c.args.manager.now in
    let then = c.args.starter.now in
    let next = c.sees_halt.new.self in
    let a = c.sees_halt.ensures in
    let from = at_rest past (call_log then) in
    let via = at_rest past (call_log next) in
    let asked = stretch-asked g.D.Disk g.met.D.Disk.only_now limits plan (may then) (may next) (count then) (count next) old from refl refl c.keeps_the_law.ensures a.may past (call_log then) (call_log next) refl refl a.asked a.counts in
    step-asked (may then) plan past (call_log then) (call_log next) a.asked c.requires.in_step

pub launch_rounds-requires-clause-unfinished : goal.launch_rounds-requires-clause-unfinished
launch_rounds-requires-clause-unfinished g c = open-going (past_of c.args.manager.now) c.requires.going

pub launch_rounds-requires-clause-unhalted : goal.launch_rounds-requires-clause-unhalted
launch_rounds-requires-clause-unhalted g c =
    let plan = plan_of c.args.manager.now in
    let past = past_of c.args.manager.now in
    let limits = limits_of c.args.manager.now in
    let may = g.S.Starter.may_return in
    let count = g.S.Starter.faults in
    let call_log = g.S.Starter.call_log in
    let old = c.args.manager.now in
    let then = c.args.starter.now in
    let next = c.sees_halt.new.self in
    let a = c.sees_halt.ensures in
    let from = at_rest past (call_log then) in
    let via = at_rest past (call_log next) in
    let asked = stretch-asked g.D.Disk g.met.D.Disk.only_now limits plan (may then) (may next) (count then) (count next) old from refl refl c.keeps_the_law.ensures a.may past (call_log then) (call_log next) refl refl a.asked a.counts in
    sym a.is ∙ c.if-not-sees_halt.true

pub returns-then-not-sees_halt-clause-went : goal.returns-then-not-sees_halt-clause-went
returns-then-not-sees_halt-clause-went g c =
    let plan = plan_of c.args.manager.now in
    let past = past_of c.args.manager.now in
    let limits = limits_of c.args.manager.now in
    let may = g.S.Starter.may_return in
    let count = g.S.Starter.faults in
    let call_log = g.S.Starter.call_log in
    let old = c.args.manager.now in
    let then = c.args.starter.now in
    let next = c.sees_halt.new.self in
    let a = c.sees_halt.ensures in
    let from = at_rest past (call_log then) in
    let via = at_rest past (call_log next) in
    let asked = stretch-asked g.D.Disk g.met.D.Disk.only_now limits plan (may then) (may next) (count then) (count next) old from refl refl c.keeps_the_law.ensures a.may past (call_log then) (call_log next) refl refl a.asked a.counts in
    let last = c.launch_rounds.new.starter in
    on-ok c.launch_rounds.result _ _
    (stretch-then g.D.Disk limits plan (may then) (may next) (may last) (count then) (count next) (count last) old old c.launch_rounds.new.manager from via asked
    (at_rest (past_of c.launch_rounds.new.manager) (call_log last))) c.launch_rounds.ensures.went

pub returns-then-not-sees_halt-clause-cut : goal.returns-then-not-sees_halt-clause-cut
returns-then-not-sees_halt-clause-cut g c =
    let plan = plan_of c.args.manager.now in
    let past = past_of c.args.manager.now in
    let limits = limits_of c.args.manager.now in
    let may = g.S.Starter.may_return in
    let count = g.S.Starter.faults in
    let call_log = g.S.Starter.call_log in
    let old = c.args.manager.now in
    let then = c.args.starter.now in
    let next = c.sees_halt.new.self in
    let a = c.sees_halt.ensures in
    let from = at_rest past (call_log then) in
    let via = at_rest past (call_log next) in
    let asked = stretch-asked g.D.Disk g.met.D.Disk.only_now limits plan (may then) (may next) (count then) (count next) old from refl refl c.keeps_the_law.ensures a.may past (call_log then) (call_log next) refl refl a.asked a.counts in
    let last = c.launch_rounds.new.starter in
    if-err c.launch_rounds.result _ _
    (stretch-cut g.D.Disk limits plan (may then) (may next) (may last) (count then) (count next) (count last) old old c.launch_rounds.new.manager from via asked
    (call_log last)) c.launch_rounds.ensures.cut

pub returns-then-is_empty-clause-cut : goal.returns-then-is_empty-clause-cut
returns-then-is_empty-clause-cut g c =
    let plan = plan_of c.args.manager.now in
    let past = past_of c.args.manager.now in
    let limits = limits_of c.args.manager.now in
    let may = g.S.Starter.may_return in
    let count = g.S.Starter.faults in
    let call_log = g.S.Starter.call_log in
    let old = c.args.manager.now in
    let then = c.args.starter.now in
    let next = c.sees_halt.new.self in
    let a = c.sees_halt.ensures in
    let from = at_rest past (call_log then) in
    let via = at_rest past (call_log next) in
    let asked = stretch-asked g.D.Disk g.met.D.Disk.only_now limits plan (may then) (may next) (count then) (count next) old from refl refl c.keeps_the_law.ensures a.may past (call_log then) (call_log next) refl refl a.asked a.counts in
    let step = step-asked (may then) plan past (call_log then) (call_log next) a.asked c.requires.in_step in
    let none : length c.running.result.now ≡ 0 = search rules in
    cut-still g.D.Disk g.met.D.Disk.only_now limits plan (may then) (may next) (count then) (count next) old from refl refl c.keeps_the_law.ensures a.may
    [] [] (call_log next) _ (goes-asked limits plan (may then) past (call_log then) (call_log next) a.asked)
    (halted (sym a.is ∙ c.if-not-sees_halt.false) (nobody-runs plan past (call_log next) c.running.result.now c.running.ensures none step)) (let same = a.counts in omega (arith, same)) (run_halted a.counts)

pub end_some-requires-clause-in_step : goal.end_some-requires-clause-in_step
end_some-requires-clause-in_step g c =
    let plan = plan_of c.args.manager.now in
    let past = past_of c.args.manager.now in
    let limits = limits_of c.args.manager.now in
    let may = g.S.Starter.may_return in
    let count = g.S.Starter.faults in
    let call_log = g.S.Starter.call_log in
    let old = c.args.manager.now in
    let then = c.args.starter.now in
    let next = c.sees_halt.new.self in
    let a = c.sees_halt.ensures in
    let from = at_rest past (call_log then) in
    let via = at_rest past (call_log next) in
    let asked = stretch-asked g.D.Disk g.met.D.Disk.only_now limits plan (may then) (may next) (count then) (count next) old from refl refl c.keeps_the_law.ensures a.may past (call_log then) (call_log next) refl refl a.asked a.counts in
    step-asked (may then) plan past (call_log then) (call_log next) a.asked c.requires.in_step

pub end_some-requires-clause-held : goal.end_some-requires-clause-held
end_some-requires-clause-held g c =
    let plan = plan_of c.args.manager.now in
    let past = past_of c.args.manager.now in
    let limits = limits_of c.args.manager.now in
    let may = g.S.Starter.may_return in
    let count = g.S.Starter.faults in
    let call_log = g.S.Starter.call_log in
    let old = c.args.manager.now in
    let then = c.args.starter.now in
    let next = c.sees_halt.new.self in
    let a = c.sees_halt.ensures in
    let from = at_rest past (call_log then) in
    let via = at_rest past (call_log next) in
    let asked = stretch-asked g.D.Disk g.met.D.Disk.only_now limits plan (may then) (may next) (count then) (count next) old from refl refl c.keeps_the_law.ensures a.may past (call_log then) (call_log next) refl refl a.asked a.counts in
    inr (sym a.is ∙ c.if-not-sees_halt.false)

pub end_some-requires-clause-some : goal.end_some-requires-clause-some
end_some-requires-clause-some g c =
    let plan = plan_of c.args.manager.now in
    let past = past_of c.args.manager.now in
    let limits = limits_of c.args.manager.now in
    let may = g.S.Starter.may_return in
    let count = g.S.Starter.faults in
    let call_log = g.S.Starter.call_log in
    let old = c.args.manager.now in
    let then = c.args.starter.now in
    let next = c.sees_halt.new.self in
    let a = c.sees_halt.ensures in
    let from = at_rest past (call_log then) in
    let via = at_rest past (call_log next) in
    let asked = stretch-asked g.D.Disk g.met.D.Disk.only_now limits plan (may then) (may next) (count then) (count next) old from refl refl c.keeps_the_law.ensures a.may past (call_log then) (call_log next) refl refl a.asked a.counts in
    let step = step-asked (may then) plan past (call_log then) (call_log next) a.asked c.requires.in_step in
    let some : 0 < length c.running.result.now = search rules in
    somebody-runs plan past (call_log next) c.running.result.now c.running.ensures some step

pub returns-clause-went : goal.returns-clause-went
returns-clause-went g c =
    let plan = plan_of c.args.manager.now in
    let past = past_of c.args.manager.now in
    let limits = limits_of c.args.manager.now in
    let may = g.S.Starter.may_return in
    let count = g.S.Starter.faults in
    let call_log = g.S.Starter.call_log in
    let old = c.args.manager.now in
    let then = c.args.starter.now in
    let next = c.sees_halt.new.self in
    let a = c.sees_halt.ensures in
    let from = at_rest past (call_log then) in
    let via = at_rest past (call_log next) in
    let asked = stretch-asked g.D.Disk g.met.D.Disk.only_now limits plan (may then) (may next) (count then) (count next) old from refl refl c.keeps_the_law.ensures a.may past (call_log then) (call_log next) refl refl a.asked a.counts in
    let last = c.end_some.new.starter in
    on-ok c.end_some.result _ _
    (stretch-then g.D.Disk limits plan (may then) (may next) (may last) (count then) (count next) (count last) old old c.end_some.new.manager from via asked
    (at_rest (past_of c.end_some.new.manager) (call_log last))) c.end_some.ensures.went

pub returns-clause-cut : goal.returns-clause-cut
returns-clause-cut g c =
    let plan = plan_of c.args.manager.now in
    let past = past_of c.args.manager.now in
    let limits = limits_of c.args.manager.now in
    let may = g.S.Starter.may_return in
    let count = g.S.Starter.faults in
    let call_log = g.S.Starter.call_log in
    let old = c.args.manager.now in
    let then = c.args.starter.now in
    let next = c.sees_halt.new.self in
    let a = c.sees_halt.ensures in
    let from = at_rest past (call_log then) in
    let via = at_rest past (call_log next) in
    let asked = stretch-asked g.D.Disk g.met.D.Disk.only_now limits plan (may then) (may next) (count then) (count next) old from refl refl c.keeps_the_law.ensures a.may past (call_log then) (call_log next) refl refl a.asked a.counts in
    let last = c.end_some.new.starter in
    if-err c.end_some.result _ _
    (stretch-cut g.D.Disk limits plan (may then) (may next) (may last) (count then) (count next) (count last) old old c.end_some.new.manager from via asked
    (call_log last)) c.end_some.ensures.cut

pub returns-clause-nearer : goal.returns-clause-nearer
returns-clause-nearer g c = λ key chosen.
    let plan = plan_of c.args.manager.now in
    let past = past_of c.args.manager.now in
    let limits = limits_of c.args.manager.now in
    let may = g.S.Starter.may_return in
    let count = g.S.Starter.faults in
    let call_log = g.S.Starter.call_log in
    let old = c.args.manager.now in
    let then = c.args.starter.now in
    let next = c.sees_halt.new.self in
    let a = c.sees_halt.ensures in
    let from = at_rest past (call_log then) in
    let via = at_rest past (call_log next) in
    let asked = stretch-asked g.D.Disk g.met.D.Disk.only_now limits plan (may then) (may next) (count then) (count next) old from refl refl c.keeps_the_law.ensures a.may past (call_log then) (call_log next) refl refl a.asked a.counts in
    on-ok c.end_some.result _ _ (λ is. is) c.end_some.ensures.nearer
