use Rattle.std.proofs.Common.{arith, [], ◌+◌, drop, length, refl, sym, ap, subst, List}
use Rattle.node_machine.specs.declared.Key.{Key}
use Rattle.node_machine.specs.declared.Outcome.{Outcome}
use Rattle.recovery_manager.specs.Managed.{plan_of, past_of}
use Rattle.job_starter_drive.specs.Drives.{At, limits_of, AreUnderWay, no_step, none_started}
use Rattle.job_starter_drive.specs.Stretches.{IsStretch}
use Rattle.job_starter_drive.proofs.Stretches.{stretch-still, stretch-then, stretch-cut}
use Rattle.job_starter_drive.proofs.Steps.{drop-all}
use Rattle.job_starter_drive.proofs.Walks.{allows-self, starts-then}
use Rattle.job_starter_drive.proofs.rounds.hand_all.Goals as goal

pub loop-place-init : goal.loop-place-init
loop-place-init g c =
    let plan = plan_of c.args.manager.now in
    let past = past_of c.args.manager.now in
    let limits = limits_of c.args.manager.now in
    let may = g.S.Starter.may_return in
    let count = g.S.Starter.faults in
    let call_log = g.S.Starter.call_log in
    let none = c.requires.none in (
      omega arith,
      (let size = ap length none in omega (arith, size)),
      omega arith,
      subst (λ (l : List (Key × Outcome)). AreUnderWay plan past (call_log c.args.starter.now) c.args.keys.now l) (sym none) c.requires.under_way,
      subst (λ (l : List (Key × Outcome)). IsStretch g.D.Disk limits plan (may c.args.starter.now) (may c.args.starter.now) (count c.args.starter.now) (count c.args.starter.now) c.args.manager.now c.args.manager.now
          (At past (call_log c.args.starter.now) c.args.keys.now []) (At past (call_log c.args.starter.now) c.args.keys.now l)) (sym none)
          (stretch-still g.D.Disk g.met.D.Disk.only_now limits plan (may c.args.starter.now) (may c.args.starter.now) (count c.args.starter.now) (count c.args.starter.now) c.args.manager.now
          (At past (call_log c.args.starter.now) c.args.keys.now []) refl refl c.keeps_the_law.ensures (allows-self (g.S.Starter.may_return c.args.starter.now)) (At past (call_log c.args.starter.now) c.args.keys.now []) refl no_step refl),
      none_started,
    )

pub loop-place-preserved : goal.loop-place-preserved
loop-place-preserved g c =
    let plan = plan_of c.args.manager.now in
    let past = past_of c.args.manager.now in
    let limits = limits_of c.args.manager.now in
    let may = g.S.Starter.may_return in
    let count = g.S.Starter.faults in
    let call_log = g.S.Starter.call_log in
    let i = c.loop-place.invariant in
    let e = c.in_default.ensures in
    let test = c.loop-place-test.true in
    let more = e.more in
    let one = i.1 in
    let room = c.hand_one.ensures.room in
    let kept = i.2 in (
      omega (arith, test),
      omega (arith, more, one),
      omega (arith, room, kept),
      e.under_way,
      stretch-then g.D.Disk limits plan (may c.args.starter.now) (may c.loop-place.starter) (may c.hand_one.new.starter) (count c.args.starter.now) (count c.loop-place.starter) (count c.hand_one.new.starter)
          c.args.manager.now c.args.manager.now c.args.manager.now (At past (call_log c.args.starter.now) c.args.keys.now []) (At past (call_log c.loop-place.starter) (drop c.loop-place.place c.args.keys.now) c.loop-place.owed.items)
          i.4 (At past (call_log c.hand_one.new.starter) (drop (c.loop-place.place + 1) c.args.keys.now) c.hand_one.new.owed.items) e.went,
      starts-then _ _ _ i.5 e.waits_for_none,
    )

pub returns-in-Err-clause-cut : goal.returns-in-Err-clause-cut
returns-in-Err-clause-cut g c =
    let plan = plan_of c.args.manager.now in
    let past = past_of c.args.manager.now in
    let limits = limits_of c.args.manager.now in
    let may = g.S.Starter.may_return in
    let count = g.S.Starter.faults in
    let call_log = g.S.Starter.call_log in
    let i = c.loop-place.invariant in
    stretch-cut g.D.Disk limits plan (may c.args.starter.now) (may c.loop-place.starter) (may c.hand_one.new.starter) (count c.args.starter.now) (count c.loop-place.starter) (count c.hand_one.new.starter)
    c.args.manager.now c.args.manager.now c.args.manager.now (At past (call_log c.args.starter.now) c.args.keys.now []) (At past (call_log c.loop-place.starter) (drop c.loop-place.place c.args.keys.now) c.loop-place.owed.items)
    i.4 (call_log c.hand_one.new.starter) c.in-Err.fault c.in-Err.ensures.cut

pub returns-in-Err-clause-waits_for_none : goal.returns-in-Err-clause-waits_for_none
returns-in-Err-clause-waits_for_none g c = starts-then _ _ _ c.loop-place.invariant.5 c.hand_one.ensures.waits_for_none

pub returns-clause-under_way : goal.returns-clause-under_way
returns-clause-under_way g c =
    let plan = plan_of c.args.manager.now in
    let past = past_of c.args.manager.now in
    let limits = limits_of c.args.manager.now in
    let may = g.S.Starter.may_return in
    let count = g.S.Starter.faults in
    let call_log = g.S.Starter.call_log in
    let i = c.loop-place.invariant in
    subst (λ (l : List Key). AreUnderWay plan past (call_log c.loop-place.starter) l c.loop-place.owed.items) (drop-all c.args.keys.now c.loop-place.place (let least = i.0 in let test = c.loop-place-test.false in omega (arith, least, test))) i.3

pub returns-clause-went : goal.returns-clause-went
returns-clause-went g c =
    let plan = plan_of c.args.manager.now in
    let past = past_of c.args.manager.now in
    let limits = limits_of c.args.manager.now in
    let may = g.S.Starter.may_return in
    let count = g.S.Starter.faults in
    let call_log = g.S.Starter.call_log in
    let i = c.loop-place.invariant in
    subst (λ (l : List Key). IsStretch g.D.Disk limits plan (may c.args.starter.now) (may c.loop-place.starter) (count c.args.starter.now) (count c.loop-place.starter) c.args.manager.now c.args.manager.now
    (At past (call_log c.args.starter.now) c.args.keys.now []) (At past (call_log c.loop-place.starter) l c.loop-place.owed.items)) (drop-all c.args.keys.now c.loop-place.place (let least = i.0 in let test = c.loop-place-test.false in omega (arith, least, test))) i.4

pub returns-clause-waits_for_none : goal.returns-clause-waits_for_none
returns-clause-waits_for_none g c = c.loop-place.invariant.5
