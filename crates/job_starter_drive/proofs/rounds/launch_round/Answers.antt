use Rattle.std.proofs.Common.{◌≡◌, ◌∙◌, inl, inr, refl, sym}
use Rattle.recovery_manager.specs.Managed.{plan_of, past_of}
use Rattle.job_starter_drive.specs.Drives.{at_rest, limits_of}
use Rattle.job_starter_drive.proofs.RoundTurns.{turn-still}
use Rattle.job_starter_drive.proofs.Steps.{on-ok, if-err}
use Rattle.job_starter_drive.proofs.Stretches.{stretch-asked, stretch-then, stretch-cut}
use Rattle.job_starter_drive.proofs.Walks.{starts-asked, starts-then, step-asked}
use Rattle.job_starter_drive.proofs.rounds.launch_round.Goals as goal

pub returns-then-sees_halt-clause-went : goal.returns-then-sees_halt-clause-went
returns-then-sees_halt-clause-went g c =
    let plan = plan_of c.args.manager.now in
    let past = past_of c.args.manager.now in
    let limits = limits_of c.args.manager.now in
    let may = g.S.Starter.may_return in
    let count = g.S.Starter.faults in
    let call_log = g.S.Starter.call_log in
    let old = c.args.manager.now in
    let then = c.args.starter.now in
    let next = c.sees_halt.new.self in
    let a = c.sees_halt.ensures in
    let from = at_rest past (call_log then) in
    let via = at_rest past (call_log next) in
    let asked = stretch-asked g.D.Disk g.met.D.Disk.only_now limits plan (may then) (may next) (count then) (count next) old from refl refl c.keeps_the_law.ensures a.may past (call_log then) (call_log next) refl refl a.asked a.counts in
    asked

pub returns-then-sees_halt-clause-done : goal.returns-then-sees_halt-clause-done
returns-then-sees_halt-clause-done g c =
    let plan = plan_of c.args.manager.now in
    let past = past_of c.args.manager.now in
    let limits = limits_of c.args.manager.now in
    let may = g.S.Starter.may_return in
    let count = g.S.Starter.faults in
    let call_log = g.S.Starter.call_log in
    let old = c.args.manager.now in
    let then = c.args.starter.now in
    let next = c.sees_halt.new.self in
    let a = c.sees_halt.ensures in
    let from = at_rest past (call_log then) in
    let via = at_rest past (call_log next) in
    let asked = stretch-asked g.D.Disk g.met.D.Disk.only_now limits plan (may then) (may next) (count then) (count next) old from refl refl c.keeps_the_law.ensures a.may past (call_log then) (call_log next) refl refl a.asked a.counts in
    inl (inr (sym a.is ∙ c.if-sees_halt.true))

pub returns-then-sees_halt-clause-turn : goal.returns-then-sees_halt-clause-turn
returns-then-sees_halt-clause-turn g c =
    let plan = plan_of c.args.manager.now in
    let past = past_of c.args.manager.now in
    let limits = limits_of c.args.manager.now in
    let may = g.S.Starter.may_return in
    let count = g.S.Starter.faults in
    let call_log = g.S.Starter.call_log in
    let old = c.args.manager.now in
    let then = c.args.starter.now in
    let next = c.sees_halt.new.self in
    let a = c.sees_halt.ensures in
    let from = at_rest past (call_log then) in
    let via = at_rest past (call_log next) in
    let asked = stretch-asked g.D.Disk g.met.D.Disk.only_now limits plan (may then) (may next) (count then) (count next) old from refl refl c.keeps_the_law.ensures a.may past (call_log then) (call_log next) refl refl a.asked a.counts in
    turn-still plan past past (call_log next) c.goes_on.ensures (step-asked (may then) plan past (call_log then) (call_log next) a.asked c.requires.in_step) refl

pub returns-then-sees_halt-clause-nearer : goal.returns-then-sees_halt-clause-nearer
returns-then-sees_halt-clause-nearer g c = λ key chosen.
    let plan = plan_of c.args.manager.now in
    let past = past_of c.args.manager.now in
    let limits = limits_of c.args.manager.now in
    let may = g.S.Starter.may_return in
    let count = g.S.Starter.faults in
    let call_log = g.S.Starter.call_log in
    let old = c.args.manager.now in
    let then = c.args.starter.now in
    let next = c.sees_halt.new.self in
    let a = c.sees_halt.ensures in
    let from = at_rest past (call_log then) in
    let via = at_rest past (call_log next) in
    let asked = stretch-asked g.D.Disk g.met.D.Disk.only_now limits plan (may then) (may next) (count then) (count next) old from refl refl c.keeps_the_law.ensures a.may past (call_log then) (call_log next) refl refl a.asked a.counts in
    inr (sym a.is ∙ c.if-sees_halt.true)

pub returns-then-sees_halt-clause-waits_for_none : goal.returns-then-sees_halt-clause-waits_for_none
returns-then-sees_halt-clause-waits_for_none g c =
    let plan = plan_of c.args.manager.now in
    let past = past_of c.args.manager.now in
    let limits = limits_of c.args.manager.now in
    let may = g.S.Starter.may_return in
    let count = g.S.Starter.faults in
    let call_log = g.S.Starter.call_log in
    let old = c.args.manager.now in
    let then = c.args.starter.now in
    let next = c.sees_halt.new.self in
    let a = c.sees_halt.ensures in
    let from = at_rest past (call_log then) in
    let via = at_rest past (call_log next) in
    let asked = stretch-asked g.D.Disk g.met.D.Disk.only_now limits plan (may then) (may next) (count then) (count next) old from refl refl c.keeps_the_law.ensures a.may past (call_log then) (call_log next) refl refl a.asked a.counts in
    starts-asked (may then) (call_log then) (call_log next) a.asked

pub launch_rounds-requires-clause-in_step : goal.launch_rounds-requires-clause-in_step
launch_rounds-requires-clause-in_step g c =
    let plan = plan_of c.args.manager.now in
    let past = past_of c.args.manager.now in
    let limits = limits_of c.args.manager.now in
    let may = g.S.Starter.may_return in
    let count = g.S.Starter.faults in
    let call_log = g.S.Starter.call_log in
    let old = c.args.manager.now in
    let then = c.args.starter.now in
    let next = c.sees_halt.new.self in
    let a = c.sees_halt.ensures in
    let from = at_rest past (call_log then) in
    let via = at_rest past (call_log next) in
    let asked = stretch-asked g.D.Disk g.met.D.Disk.only_now limits plan (may then) (may next) (count then) (count next) old from refl refl c.keeps_the_law.ensures a.may past (call_log then) (call_log next) refl refl a.asked a.counts in
    step-asked (may then) plan past (call_log then) (call_log next) a.asked c.requires.in_step

pub launch_rounds-requires-clause-unhalted : goal.launch_rounds-requires-clause-unhalted
launch_rounds-requires-clause-unhalted g c =
    let plan = plan_of c.args.manager.now in
    let past = past_of c.args.manager.now in
    let limits = limits_of c.args.manager.now in
    let may = g.S.Starter.may_return in
    let count = g.S.Starter.faults in
    let call_log = g.S.Starter.call_log in
    let old = c.args.manager.now in
    let then = c.args.starter.now in
    let next = c.sees_halt.new.self in
    let a = c.sees_halt.ensures in
    let from = at_rest past (call_log then) in
    let via = at_rest past (call_log next) in
    let asked = stretch-asked g.D.Disk g.met.D.Disk.only_now limits plan (may then) (may next) (count then) (count next) old from refl refl c.keeps_the_law.ensures a.may past (call_log then) (call_log next) refl refl a.asked a.counts in
    sym a.is ∙ c.if-sees_halt.false

pub returns-clause-went : goal.returns-clause-went
returns-clause-went g c =
    let plan = plan_of c.args.manager.now in
    let past = past_of c.args.manager.now in
    let limits = limits_of c.args.manager.now in
    let may = g.S.Starter.may_return in
    let count = g.S.Starter.faults in
    let call_log = g.S.Starter.call_log in
    let old = c.args.manager.now in
    let then = c.args.starter.now in
    let next = c.sees_halt.new.self in
    let a = c.sees_halt.ensures in
    let from = at_rest past (call_log then) in
    let via = at_rest past (call_log next) in
    let asked = stretch-asked g.D.Disk g.met.D.Disk.only_now limits plan (may then) (may next) (count then) (count next) old from refl refl c.keeps_the_law.ensures a.may past (call_log then) (call_log next) refl refl a.asked a.counts in
    let last = c.launch_rounds.new.starter in
    on-ok c.launch_rounds.result _ _
    (stretch-then g.D.Disk limits plan (may then) (may next) (may last) (count then) (count next) (count last) old old c.launch_rounds.new.manager from via asked
    (at_rest (past_of c.launch_rounds.new.manager) (call_log last))) c.launch_rounds.ensures.went

pub returns-clause-cut : goal.returns-clause-cut
returns-clause-cut g c =
    let plan = plan_of c.args.manager.now in
    let past = past_of c.args.manager.now in
    let limits = limits_of c.args.manager.now in
    let may = g.S.Starter.may_return in
    let count = g.S.Starter.faults in
    let call_log = g.S.Starter.call_log in
    let old = c.args.manager.now in
    let then = c.args.starter.now in
    let next = c.sees_halt.new.self in
    let a = c.sees_halt.ensures in
    let from = at_rest past (call_log then) in
    let via = at_rest past (call_log next) in
    let asked = stretch-asked g.D.Disk g.met.D.Disk.only_now limits plan (may then) (may next) (count then) (count next) old from refl refl c.keeps_the_law.ensures a.may past (call_log then) (call_log next) refl refl a.asked a.counts in
    let last = c.launch_rounds.new.starter in
    if-err c.launch_rounds.result _ _
    (stretch-cut g.D.Disk limits plan (may then) (may next) (may last) (count then) (count next) (count last) old old c.launch_rounds.new.manager from via asked
    (call_log last)) c.launch_rounds.ensures.cut

pub returns-clause-nearer : goal.returns-clause-nearer
returns-clause-nearer g c = λ key chosen.
    let plan = plan_of c.args.manager.now in
    let past = past_of c.args.manager.now in
    let limits = limits_of c.args.manager.now in
    let may = g.S.Starter.may_return in
    let count = g.S.Starter.faults in
    let call_log = g.S.Starter.call_log in
    let old = c.args.manager.now in
    let then = c.args.starter.now in
    let next = c.sees_halt.new.self in
    let a = c.sees_halt.ensures in
    let from = at_rest past (call_log then) in
    let via = at_rest past (call_log next) in
    let asked = stretch-asked g.D.Disk g.met.D.Disk.only_now limits plan (may then) (may next) (count then) (count next) old from refl refl c.keeps_the_law.ensures a.may past (call_log then) (call_log next) refl refl a.asked a.counts in
    on-ok c.launch_rounds.result _ _ inl (c.launch_rounds.ensures.nearer key chosen)

pub returns-clause-waits_for_none : goal.returns-clause-waits_for_none
returns-clause-waits_for_none g c =
    let plan = plan_of c.args.manager.now in
    let past = past_of c.args.manager.now in
    let limits = limits_of c.args.manager.now in
    let may = g.S.Starter.may_return in
    let count = g.S.Starter.faults in
    let call_log = g.S.Starter.call_log in
    let old = c.args.manager.now in
    let then = c.args.starter.now in
    let next = c.sees_halt.new.self in
    let a = c.sees_halt.ensures in
    let from = at_rest past (call_log then) in
    let via = at_rest past (call_log next) in
    let asked = stretch-asked g.D.Disk g.met.D.Disk.only_now limits plan (may then) (may next) (count then) (count next) old from refl refl c.keeps_the_law.ensures a.may past (call_log then) (call_log next) refl refl a.asked a.counts in
    starts-then _ _ _ (starts-asked (may then) (call_log then) (call_log next) a.asked) c.launch_rounds.ensures.waits_for_none
