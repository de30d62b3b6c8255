use Rattle.std.proofs.Common.{arith, rules, ◌≡◌, ◌<◌, ◌∙◌, ◌&&◌, not, inl, inr, List, [], Some, None, true, false, length, refl, sym, ap, subst}
use Rattle.node_machine.specs.declared.Record.{Record}
use Rattle.throttles.specs.declared.Limits.{Limits}
use Rattle.run_plan.specs.Plan.{Plan}
use Rattle.sched_core.specs.Run.{is_aborted}
use Rattle.sched_core.specs.Ahead.{NothingToStart}
use Rattle.recovery_manager.specs.Managed.{plan_of, past_of}
use Rattle.job_starter_drive.specs.Drives.{at_rest, limits_of, AreInStep, IsTurn, IsRoundOf, IsNearerEnd, is_aborted_between, round_refused, no_step, none_started}
use Rattle.job_starter_drive.specs.Causes.{no_memory_for_round}
use Rattle.job_starter_drive.specs.Stretches.{IsCutShort}
use Rattle.job_starter_drive.proofs.RoundTurns.{turn-asked, turn-before, turn-still, turn-abort_free, turn-stops}
use Rattle.job_starter_drive.proofs.Steps.{some-there, none-there}
use Rattle.job_starter_drive.proofs.Stretches.{stretch-asked, stretch-still, stretch-on, cut-on, cut-still}
use Rattle.job_starter_drive.proofs.Turns.{nearer-then}
use Rattle.job_starter_drive.proofs.Walks.{allows-self, starts-asked, starts-then, step-asked}
use Rattle.job_starter_drive.proofs.rounds.launch_rounds.Goals as goal

pub loop-keys-init : goal.loop-keys-init
loop-keys-init g c = (
  stretch-still g.D.Disk g.met.D.Disk.only_now (limits_of c.args.manager.now) (plan_of c.args.manager.now) (g.S.Starter.may_return c.args.starter.now) (g.S.Starter.may_return c.args.starter.now) (g.S.Starter.faults c.args.starter.now) (g.S.Starter.faults c.args.starter.now) c.args.manager.now
      (at_rest (past_of c.args.manager.now) (g.S.Starter.call_log c.args.starter.now)) refl refl c.keeps_the_law.ensures (allows-self (g.S.Starter.may_return c.args.starter.now)) (at_rest (past_of c.args.manager.now) (g.S.Starter.call_log c.args.starter.now)) refl no_step refl,
  c.requires.in_step,
  c.goes_on.ensures,
  refl,
  inl refl,
  none_started,
  c.requires.unhalted,
)

pub returns-in-Err-clause-cut : goal.returns-in-Err-clause-cut
returns-in-Err-clause-cut g c =
    let plan = plan_of c.args.manager.now in
    let past = past_of c.args.manager.now in
    let limits = limits_of c.args.manager.now in
    let may = g.S.Starter.may_return in
    let count = g.S.Starter.faults in
    let call_log = g.S.Starter.call_log in
    let old = c.args.manager.now in
    let from = at_rest past (call_log c.args.starter.now) in
    let i = c.loop-keys.invariant in
    let mid = c.loop-keys.manager in
    let via = at_rest (past_of mid) (call_log c.loop-keys.starter) in
    let round = c.in-Err.ensures.err in
    cut-on g.D.Disk limits plan (may c.args.starter.now) (may c.loop-keys.starter) (may c.loop-keys.starter) (count c.args.starter.now) (count c.loop-keys.starter) (count c.loop-keys.starter) old mid mid from via i.0
    (call_log c.loop-keys.starter) c.in-Err.fault (subst (IsCutShort g.D.Disk (limits_of mid) (plan_of mid) (may c.loop-keys.starter) (may c.loop-keys.starter) (count c.loop-keys.starter) (count c.loop-keys.starter) mid mid via (call_log c.loop-keys.starter)) (sym round)
    (cut-still g.D.Disk g.met.D.Disk.only_now (limits_of mid) (plan_of mid) (may c.loop-keys.starter) (may c.loop-keys.starter) (count c.loop-keys.starter) (count c.loop-keys.starter) mid via refl refl c.keeps_the_law-in-loop-keys.ensures (allows-self (may c.loop-keys.starter))
    [] [] (call_log c.loop-keys.starter) _ no_step round_refused (omega arith) (no_memory_for_round refl)))

pub returns-in-Err-clause-waits_for_none : goal.returns-in-Err-clause-waits_for_none
returns-in-Err-clause-waits_for_none g c = c.loop-keys.invariant.5

pub returns-then-is_empty-clause-plan : goal.returns-then-is_empty-clause-plan
returns-then-is_empty-clause-plan g c = c.loop-keys.invariant.0.plan_is

pub returns-then-is_empty-clause-limits : goal.returns-then-is_empty-clause-limits
returns-then-is_empty-clause-limits g c = c.loop-keys.invariant.0.limits_are

pub returns-then-is_empty-clause-done : goal.returns-then-is_empty-clause-done
returns-then-is_empty-clause-done g c =
    let plan = plan_of c.args.manager.now in
    let past = past_of c.args.manager.now in
    let limits = limits_of c.args.manager.now in
    let may = g.S.Starter.may_return in
    let count = g.S.Starter.faults in
    let call_log = g.S.Starter.call_log in
    let old = c.args.manager.now in
    let from = at_rest past (call_log c.args.starter.now) in
    let i = c.loop-keys.invariant in
    let mid = c.loop-keys.manager in
    let via = at_rest (past_of mid) (call_log c.loop-keys.starter) in
    let size : length c.in-Ok.keys.items ≡ 0 = search rules in
    let held = c.in-Ok.ensures.held (none-there c.in-Ok.keys.items size) in
    inl (inl (subst (λ (l : Limits). NothingToStart l plan (past_of mid)) i.0.limits_are (subst (λ (p : Plan). NothingToStart (limits_of mid) p (past_of mid)) i.0.plan_is held)))

pub returns-then-is_empty-clause-turn : goal.returns-then-is_empty-clause-turn
returns-then-is_empty-clause-turn g c =
    let plan = plan_of c.args.manager.now in
    let past = past_of c.args.manager.now in
    let limits = limits_of c.args.manager.now in
    let may = g.S.Starter.may_return in
    let count = g.S.Starter.faults in
    let call_log = g.S.Starter.call_log in
    let old = c.args.manager.now in
    let from = at_rest past (call_log c.args.starter.now) in
    let i = c.loop-keys.invariant in
    let mid = c.loop-keys.manager in
    let via = at_rest (past_of mid) (call_log c.loop-keys.starter) in
    turn-still plan past (past_of mid) (call_log c.loop-keys.starter) i.2 i.1 i.3

pub returns-then-is_empty-clause-nearer : goal.returns-then-is_empty-clause-nearer
returns-then-is_empty-clause-nearer g c = λ key chosen.
    let plan = plan_of c.args.manager.now in
    let past = past_of c.args.manager.now in
    let limits = limits_of c.args.manager.now in
    let may = g.S.Starter.may_return in
    let count = g.S.Starter.faults in
    let call_log = g.S.Starter.call_log in
    let old = c.args.manager.now in
    let from = at_rest past (call_log c.args.starter.now) in
    let i = c.loop-keys.invariant in
    let mid = c.loop-keys.manager in
    let via = at_rest (past_of mid) (call_log c.loop-keys.starter) in
    let size : length c.in-Ok.keys.items ≡ 0 = search rules in
    let held = c.in-Ok.ensures.held (none-there c.in-Ok.keys.items size) in
    let here : NothingToStart limits plan (past_of mid) = subst (λ (l : Limits). NothingToStart l plan (past_of mid)) i.0.limits_are (subst (λ (p : Plan). NothingToStart (limits_of mid) p (past_of mid)) i.0.plan_is held) in
    elim i.4 [
      | inl same ↦ (let bad : None ≡ Some key = sym (subst (NothingToStart limits plan) same here key.node) ∙ chosen.0 in absurd cc)
      | inr nearer ↦ nearer
    ]

pub returns-then-is_empty-clause-waits_for_none : goal.returns-then-is_empty-clause-waits_for_none
returns-then-is_empty-clause-waits_for_none g c = c.loop-keys.invariant.5

pub start_round-requires-clause-in_step : goal.start_round-requires-clause-in_step
start_round-requires-clause-in_step g c =
    let plan = plan_of c.args.manager.now in
    let past = past_of c.args.manager.now in
    let limits = limits_of c.args.manager.now in
    let may = g.S.Starter.may_return in
    let count = g.S.Starter.faults in
    let call_log = g.S.Starter.call_log in
    let old = c.args.manager.now in
    let from = at_rest past (call_log c.args.starter.now) in
    let i = c.loop-keys.invariant in
    let mid = c.loop-keys.manager in
    let via = at_rest (past_of mid) (call_log c.loop-keys.starter) in
    subst (λ (p : Plan). AreInStep p (past_of mid) (call_log c.loop-keys.starter)) (sym i.0.plan_is) i.1

pub start_round-requires-clause-going : goal.start_round-requires-clause-going
start_round-requires-clause-going g c = c.loop-keys.invariant.2

pub start_round-requires-clause-unhalted : goal.start_round-requires-clause-unhalted
start_round-requires-clause-unhalted g c = c.loop-keys.invariant.6

pub start_round-requires-clause-round : goal.start_round-requires-clause-round
start_round-requires-clause-round g c =
    let plan = plan_of c.args.manager.now in
    let past = past_of c.args.manager.now in
    let limits = limits_of c.args.manager.now in
    let may = g.S.Starter.may_return in
    let count = g.S.Starter.faults in
    let call_log = g.S.Starter.call_log in
    let old = c.args.manager.now in
    let from = at_rest past (call_log c.args.starter.now) in
    let i = c.loop-keys.invariant in
    let mid = c.loop-keys.manager in
    let via = at_rest (past_of mid) (call_log c.loop-keys.starter) in
    let size : 0 < length c.in-Ok.keys.items = search rules in
    subst (IsRoundOf (limits_of mid) (plan_of mid) (past_of mid)) (sym c.deref.ensures.value) (c.in-Ok.ensures.round (some-there c.in-Ok.keys.items size))

pub returns-in-Err-start_round-clause-cut : goal.returns-in-Err-start_round-clause-cut
returns-in-Err-start_round-clause-cut g c =
    let plan = plan_of c.args.manager.now in
    let past = past_of c.args.manager.now in
    let limits = limits_of c.args.manager.now in
    let may = g.S.Starter.may_return in
    let count = g.S.Starter.faults in
    let call_log = g.S.Starter.call_log in
    let old = c.args.manager.now in
    let from = at_rest past (call_log c.args.starter.now) in
    let i = c.loop-keys.invariant in
    let mid = c.loop-keys.manager in
    let via = at_rest (past_of mid) (call_log c.loop-keys.starter) in
    cut-on g.D.Disk limits plan (may c.args.starter.now) (may c.loop-keys.starter) (may c.start_round.new.starter) (count c.args.starter.now) (count c.loop-keys.starter) (count c.start_round.new.starter) old mid c.start_round.new.manager from via i.0
    (call_log c.start_round.new.starter) c.in-Err-start_round.fault c.in-Err-start_round.ensures.cut

pub returns-in-Err-start_round-clause-plan : goal.returns-in-Err-start_round-clause-plan
returns-in-Err-start_round-clause-plan g c = c.in-Err-start_round.ensures.cut.plan_is ∙ c.loop-keys.invariant.0.plan_is

pub returns-in-Err-start_round-clause-limits : goal.returns-in-Err-start_round-clause-limits
returns-in-Err-start_round-clause-limits g c = c.in-Err-start_round.ensures.cut.limits_are ∙ c.loop-keys.invariant.0.limits_are

pub returns-in-Err-start_round-clause-waits_for_none : goal.returns-in-Err-start_round-clause-waits_for_none
returns-in-Err-start_round-clause-waits_for_none g c = starts-then _ _ _ c.loop-keys.invariant.5 c.start_round.ensures.waits_for_none

pub returns-in-Err-clause-plan : goal.returns-in-Err-clause-plan
returns-in-Err-clause-plan g c = c.loop-keys.invariant.0.plan_is

pub returns-in-Err-clause-limits : goal.returns-in-Err-clause-limits
returns-in-Err-clause-limits g c = c.loop-keys.invariant.0.limits_are

pub returns-then-is_new-clause-plan : goal.returns-then-is_new-clause-plan
returns-then-is_new-clause-plan g c =
    let plan = plan_of c.args.manager.now in
    let past = past_of c.args.manager.now in
    let limits = limits_of c.args.manager.now in
    let may = g.S.Starter.may_return in
    let count = g.S.Starter.faults in
    let call_log = g.S.Starter.call_log in
    let old = c.args.manager.now in
    let from = at_rest past (call_log c.args.starter.now) in
    let i = c.loop-keys.invariant in
    let mid = c.loop-keys.manager in
    let via = at_rest (past_of mid) (call_log c.loop-keys.starter) in
    let new = c.start_round.new.manager in
    let e = c.in_default.ensures in
    let turn : IsTurn plan (past_of mid) (past_of new) (call_log c.start_round.new.starter) = subst (λ (p : Plan). IsTurn p (past_of mid) (past_of new) (call_log c.start_round.new.starter)) i.0.plan_is e.turn in
    let nearer : IsNearerEnd plan (past_of mid) (past_of new) = subst (λ (p : Plan). IsNearerEnd p (past_of mid) (past_of new)) i.0.plan_is e.nearer in
    let went = stretch-on g.D.Disk limits plan (may c.args.starter.now) (may c.loop-keys.starter) (may c.start_round.new.starter) (count c.args.starter.now) (count c.loop-keys.starter) (count c.start_round.new.starter) old mid new from via i.0
    (at_rest (past_of new) (call_log c.start_round.new.starter)) e.went in
    let before = c.is_aborted-before.ensures ∙ ap (λ (p : Plan). is_aborted p (past_of mid)) i.0.plan_is in
    let now = c.is_aborted.ensures ∙ ap (λ (p : Plan). is_aborted p (past_of new)) went.plan_is in
    went.plan_is

pub returns-then-is_new-clause-limits : goal.returns-then-is_new-clause-limits
returns-then-is_new-clause-limits g c =
    let plan = plan_of c.args.manager.now in
    let past = past_of c.args.manager.now in
    let limits = limits_of c.args.manager.now in
    let may = g.S.Starter.may_return in
    let count = g.S.Starter.faults in
    let call_log = g.S.Starter.call_log in
    let old = c.args.manager.now in
    let from = at_rest past (call_log c.args.starter.now) in
    let i = c.loop-keys.invariant in
    let mid = c.loop-keys.manager in
    let via = at_rest (past_of mid) (call_log c.loop-keys.starter) in
    let new = c.start_round.new.manager in
    let e = c.in_default.ensures in
    let turn : IsTurn plan (past_of mid) (past_of new) (call_log c.start_round.new.starter) = subst (λ (p : Plan). IsTurn p (past_of mid) (past_of new) (call_log c.start_round.new.starter)) i.0.plan_is e.turn in
    let nearer : IsNearerEnd plan (past_of mid) (past_of new) = subst (λ (p : Plan). IsNearerEnd p (past_of mid) (past_of new)) i.0.plan_is e.nearer in
    let went = stretch-on g.D.Disk limits plan (may c.args.starter.now) (may c.loop-keys.starter) (may c.start_round.new.starter) (count c.args.starter.now) (count c.loop-keys.starter) (count c.start_round.new.starter) old mid new from via i.0
    (at_rest (past_of new) (call_log c.start_round.new.starter)) e.went in
    let before = c.is_aborted-before.ensures ∙ ap (λ (p : Plan). is_aborted p (past_of mid)) i.0.plan_is in
    let now = c.is_aborted.ensures ∙ ap (λ (p : Plan). is_aborted p (past_of new)) went.plan_is in
    went.limits_are

pub returns-then-is_new-clause-went : goal.returns-then-is_new-clause-went
returns-then-is_new-clause-went g c =
    let plan = plan_of c.args.manager.now in
    let past = past_of c.args.manager.now in
    let limits = limits_of c.args.manager.now in
    let may = g.S.Starter.may_return in
    let count = g.S.Starter.faults in
    let call_log = g.S.Starter.call_log in
    let old = c.args.manager.now in
    let from = at_rest past (call_log c.args.starter.now) in
    let i = c.loop-keys.invariant in
    let mid = c.loop-keys.manager in
    let via = at_rest (past_of mid) (call_log c.loop-keys.starter) in
    let new = c.start_round.new.manager in
    let e = c.in_default.ensures in
    let turn : IsTurn plan (past_of mid) (past_of new) (call_log c.start_round.new.starter) = subst (λ (p : Plan). IsTurn p (past_of mid) (past_of new) (call_log c.start_round.new.starter)) i.0.plan_is e.turn in
    let nearer : IsNearerEnd plan (past_of mid) (past_of new) = subst (λ (p : Plan). IsNearerEnd p (past_of mid) (past_of new)) i.0.plan_is e.nearer in
    let went = stretch-on g.D.Disk limits plan (may c.args.starter.now) (may c.loop-keys.starter) (may c.start_round.new.starter) (count c.args.starter.now) (count c.loop-keys.starter) (count c.start_round.new.starter) old mid new from via i.0
    (at_rest (past_of new) (call_log c.start_round.new.starter)) e.went in
    let before = c.is_aborted-before.ensures ∙ ap (λ (p : Plan). is_aborted p (past_of mid)) i.0.plan_is in
    let now = c.is_aborted.ensures ∙ ap (λ (p : Plan). is_aborted p (past_of new)) went.plan_is in
    went

pub returns-then-is_new-clause-done : goal.returns-then-is_new-clause-done
returns-then-is_new-clause-done g c =
    let plan = plan_of c.args.manager.now in
    let past = past_of c.args.manager.now in
    let limits = limits_of c.args.manager.now in
    let may = g.S.Starter.may_return in
    let count = g.S.Starter.faults in
    let call_log = g.S.Starter.call_log in
    let old = c.args.manager.now in
    let from = at_rest past (call_log c.args.starter.now) in
    let i = c.loop-keys.invariant in
    let mid = c.loop-keys.manager in
    let via = at_rest (past_of mid) (call_log c.loop-keys.starter) in
    let new = c.start_round.new.manager in
    let e = c.in_default.ensures in
    let turn : IsTurn plan (past_of mid) (past_of new) (call_log c.start_round.new.starter) = subst (λ (p : Plan). IsTurn p (past_of mid) (past_of new) (call_log c.start_round.new.starter)) i.0.plan_is e.turn in
    let nearer : IsNearerEnd plan (past_of mid) (past_of new) = subst (λ (p : Plan). IsNearerEnd p (past_of mid) (past_of new)) i.0.plan_is e.nearer in
    let went = stretch-on g.D.Disk limits plan (may c.args.starter.now) (may c.loop-keys.starter) (may c.start_round.new.starter) (count c.args.starter.now) (count c.loop-keys.starter) (count c.start_round.new.starter) old mid new from via i.0
    (at_rest (past_of new) (call_log c.start_round.new.starter)) e.went in
    let before = c.is_aborted-before.ensures ∙ ap (λ (p : Plan). is_aborted p (past_of mid)) i.0.plan_is in
    let now = c.is_aborted.ensures ∙ ap (λ (p : Plan). is_aborted p (past_of new)) went.plan_is in
    let flag : is_aborted_between plan (past_of mid) (past_of new) ≡ true = (λ j. not (sym before j) && sym now j) ∙ sym c.is_new.ensures ∙ c.if-is_new.true in
    inr (sym i.3 ∙ turn-stops plan (past_of mid) (past_of new) flag, turn.at_last flag)

pub returns-then-is_new-clause-turn : goal.returns-then-is_new-clause-turn
returns-then-is_new-clause-turn g c =
    let plan = plan_of c.args.manager.now in
    let past = past_of c.args.manager.now in
    let limits = limits_of c.args.manager.now in
    let may = g.S.Starter.may_return in
    let count = g.S.Starter.faults in
    let call_log = g.S.Starter.call_log in
    let old = c.args.manager.now in
    let from = at_rest past (call_log c.args.starter.now) in
    let i = c.loop-keys.invariant in
    let mid = c.loop-keys.manager in
    let via = at_rest (past_of mid) (call_log c.loop-keys.starter) in
    let new = c.start_round.new.manager in
    let e = c.in_default.ensures in
    let turn : IsTurn plan (past_of mid) (past_of new) (call_log c.start_round.new.starter) = subst (λ (p : Plan). IsTurn p (past_of mid) (past_of new) (call_log c.start_round.new.starter)) i.0.plan_is e.turn in
    let nearer : IsNearerEnd plan (past_of mid) (past_of new) = subst (λ (p : Plan). IsNearerEnd p (past_of mid) (past_of new)) i.0.plan_is e.nearer in
    let went = stretch-on g.D.Disk limits plan (may c.args.starter.now) (may c.loop-keys.starter) (may c.start_round.new.starter) (count c.args.starter.now) (count c.loop-keys.starter) (count c.start_round.new.starter) old mid new from via i.0
    (at_rest (past_of new) (call_log c.start_round.new.starter)) e.went in
    let before = c.is_aborted-before.ensures ∙ ap (λ (p : Plan). is_aborted p (past_of mid)) i.0.plan_is in
    let now = c.is_aborted.ensures ∙ ap (λ (p : Plan). is_aborted p (past_of new)) went.plan_is in
    turn-before plan past (past_of mid) (past_of new) (call_log c.start_round.new.starter) i.3 turn

pub returns-then-is_new-clause-nearer : goal.returns-then-is_new-clause-nearer
returns-then-is_new-clause-nearer g c = λ key chosen.
    let plan = plan_of c.args.manager.now in
    let past = past_of c.args.manager.now in
    let limits = limits_of c.args.manager.now in
    let may = g.S.Starter.may_return in
    let count = g.S.Starter.faults in
    let call_log = g.S.Starter.call_log in
    let old = c.args.manager.now in
    let from = at_rest past (call_log c.args.starter.now) in
    let i = c.loop-keys.invariant in
    let mid = c.loop-keys.manager in
    let via = at_rest (past_of mid) (call_log c.loop-keys.starter) in
    let new = c.start_round.new.manager in
    let e = c.in_default.ensures in
    let turn : IsTurn plan (past_of mid) (past_of new) (call_log c.start_round.new.starter) = subst (λ (p : Plan). IsTurn p (past_of mid) (past_of new) (call_log c.start_round.new.starter)) i.0.plan_is e.turn in
    let nearer : IsNearerEnd plan (past_of mid) (past_of new) = subst (λ (p : Plan). IsNearerEnd p (past_of mid) (past_of new)) i.0.plan_is e.nearer in
    let went = stretch-on g.D.Disk limits plan (may c.args.starter.now) (may c.loop-keys.starter) (may c.start_round.new.starter) (count c.args.starter.now) (count c.loop-keys.starter) (count c.start_round.new.starter) old mid new from via i.0
    (at_rest (past_of new) (call_log c.start_round.new.starter)) e.went in
    let before = c.is_aborted-before.ensures ∙ ap (λ (p : Plan). is_aborted p (past_of mid)) i.0.plan_is in
    let now = c.is_aborted.ensures ∙ ap (λ (p : Plan). is_aborted p (past_of new)) went.plan_is in
    elim i.4 [
      | inl same ↦ subst (λ (l : List Record). IsNearerEnd plan l (past_of new)) same nearer
      | inr first ↦ nearer-then plan past (past_of mid) (past_of new) first nearer
    ]

pub returns-then-is_new-clause-waits_for_none : goal.returns-then-is_new-clause-waits_for_none
returns-then-is_new-clause-waits_for_none g c = starts-then _ _ _ c.loop-keys.invariant.5 c.start_round.ensures.waits_for_none

pub returns-then-sees_halt-clause-plan : goal.returns-then-sees_halt-clause-plan
returns-then-sees_halt-clause-plan g c =
    let plan = plan_of c.args.manager.now in
    let past = past_of c.args.manager.now in
    let limits = limits_of c.args.manager.now in
    let may = g.S.Starter.may_return in
    let count = g.S.Starter.faults in
    let call_log = g.S.Starter.call_log in
    let old = c.args.manager.now in
    let from = at_rest past (call_log c.args.starter.now) in
    let i = c.loop-keys.invariant in
    let mid = c.loop-keys.manager in
    let via = at_rest (past_of mid) (call_log c.loop-keys.starter) in
    let new = c.start_round.new.manager in
    let e = c.in_default.ensures in
    let turn : IsTurn plan (past_of mid) (past_of new) (call_log c.start_round.new.starter) = subst (λ (p : Plan). IsTurn p (past_of mid) (past_of new) (call_log c.start_round.new.starter)) i.0.plan_is e.turn in
    let nearer : IsNearerEnd plan (past_of mid) (past_of new) = subst (λ (p : Plan). IsNearerEnd p (past_of mid) (past_of new)) i.0.plan_is e.nearer in
    let went = stretch-on g.D.Disk limits plan (may c.args.starter.now) (may c.loop-keys.starter) (may c.start_round.new.starter) (count c.args.starter.now) (count c.loop-keys.starter) (count c.start_round.new.starter) old mid new from via i.0
    (at_rest (past_of new) (call_log c.start_round.new.starter)) e.went in
    let before = c.is_aborted-before.ensures ∙ ap (λ (p : Plan). is_aborted p (past_of mid)) i.0.plan_is in
    let now = c.is_aborted.ensures ∙ ap (λ (p : Plan). is_aborted p (past_of new)) went.plan_is in
    let flag : is_aborted_between plan (past_of mid) (past_of new) ≡ false = (λ j. not (sym before j) && sym now j) ∙ sym c.is_new.ensures ∙ c.if-is_new.false in
    let last = c.start_round.new.starter in
    let next = c.sees_halt.new.self in
    let a = c.sees_halt.ensures in
    let asked = stretch-on g.D.Disk limits plan (may c.args.starter.now) (may last) (may next) (count c.args.starter.now) (count last) (count next) old new new from (at_rest (past_of new) (call_log last)) went
    (at_rest (past_of new) (call_log next))
    (stretch-asked g.D.Disk g.met.D.Disk.only_now (limits_of new) (plan_of new) (may last) (may next) (count last) (count next) new (at_rest (past_of new) (call_log last)) refl refl c.keeps_the_law-in-loop-keys-2.ensures a.may
    (past_of new) (call_log last) (call_log next) refl refl a.asked a.counts) in
    asked.plan_is

pub returns-then-sees_halt-clause-limits : goal.returns-then-sees_halt-clause-limits
returns-then-sees_halt-clause-limits g c =
    let plan = plan_of c.args.manager.now in
    let past = past_of c.args.manager.now in
    let limits = limits_of c.args.manager.now in
    let may = g.S.Starter.may_return in
    let count = g.S.Starter.faults in
    let call_log = g.S.Starter.call_log in
    let old = c.args.manager.now in
    let from = at_rest past (call_log c.args.starter.now) in
    let i = c.loop-keys.invariant in
    let mid = c.loop-keys.manager in
    let via = at_rest (past_of mid) (call_log c.loop-keys.starter) in
    let new = c.start_round.new.manager in
    let e = c.in_default.ensures in
    let turn : IsTurn plan (past_of mid) (past_of new) (call_log c.start_round.new.starter) = subst (λ (p : Plan). IsTurn p (past_of mid) (past_of new) (call_log c.start_round.new.starter)) i.0.plan_is e.turn in
    let nearer : IsNearerEnd plan (past_of mid) (past_of new) = subst (λ (p : Plan). IsNearerEnd p (past_of mid) (past_of new)) i.0.plan_is e.nearer in
    let went = stretch-on g.D.Disk limits plan (may c.args.starter.now) (may c.loop-keys.starter) (may c.start_round.new.starter) (count c.args.starter.now) (count c.loop-keys.starter) (count c.start_round.new.starter) old mid new from via i.0
    (at_rest (past_of new) (call_log c.start_round.new.starter)) e.went in
    let before = c.is_aborted-before.ensures ∙ ap (λ (p : Plan). is_aborted p (past_of mid)) i.0.plan_is in
    let now = c.is_aborted.ensures ∙ ap (λ (p : Plan). is_aborted p (past_of new)) went.plan_is in
    let flag : is_aborted_between plan (past_of mid) (past_of new) ≡ false = (λ j. not (sym before j) && sym now j) ∙ sym c.is_new.ensures ∙ c.if-is_new.false in
    let last = c.start_round.new.starter in
    let next = c.sees_halt.new.self in
    let a = c.sees_halt.ensures in
    let asked = stretch-on g.D.Disk limits plan (may c.args.starter.now) (may last) (may next) (count c.args.starter.now) (count last) (count next) old new new from (at_rest (past_of new) (call_log last)) went
    (at_rest (past_of new) (call_log next))
    (stretch-asked g.D.Disk g.met.D.Disk.only_now (limits_of new) (plan_of new) (may last) (may next) (count last) (count next) new (at_rest (past_of new) (call_log last)) refl refl c.keeps_the_law-in-loop-keys-2.ensures a.may
    (past_of new) (call_log last) (call_log next) refl refl a.asked a.counts) in
    asked.limits_are

pub returns-then-sees_halt-clause-went : goal.returns-then-sees_halt-clause-went
returns-then-sees_halt-clause-went g c =
    let plan = plan_of c.args.manager.now in
    let past = past_of c.args.manager.now in
    let limits = limits_of c.args.manager.now in
    let may = g.S.Starter.may_return in
    let count = g.S.Starter.faults in
    let call_log = g.S.Starter.call_log in
    let old = c.args.manager.now in
    let from = at_rest past (call_log c.args.starter.now) in
    let i = c.loop-keys.invariant in
    let mid = c.loop-keys.manager in
    let via = at_rest (past_of mid) (call_log c.loop-keys.starter) in
    let new = c.start_round.new.manager in
    let e = c.in_default.ensures in
    let turn : IsTurn plan (past_of mid) (past_of new) (call_log c.start_round.new.starter) = subst (λ (p : Plan). IsTurn p (past_of mid) (past_of new) (call_log c.start_round.new.starter)) i.0.plan_is e.turn in
    let nearer : IsNearerEnd plan (past_of mid) (past_of new) = subst (λ (p : Plan). IsNearerEnd p (past_of mid) (past_of new)) i.0.plan_is e.nearer in
    let went = stretch-on g.D.Disk limits plan (may c.args.starter.now) (may c.loop-keys.starter) (may c.start_round.new.starter) (count c.args.starter.now) (count c.loop-keys.starter) (count c.start_round.new.starter) old mid new from via i.0
    (at_rest (past_of new) (call_log c.start_round.new.starter)) e.went in
    let before = c.is_aborted-before.ensures ∙ ap (λ (p : Plan). is_aborted p (past_of mid)) i.0.plan_is in
    let now = c.is_aborted.ensures ∙ ap (λ (p : Plan). is_aborted p (past_of new)) went.plan_is in
    let flag : is_aborted_between plan (past_of mid) (past_of new) ≡ false = (λ j. not (sym before j) && sym now j) ∙ sym c.is_new.ensures ∙ c.if-is_new.false in
    let last = c.start_round.new.starter in
    let next = c.sees_halt.new.self in
    let a = c.sees_halt.ensures in
    let asked = stretch-on g.D.Disk limits plan (may c.args.starter.now) (may last) (may next) (count c.args.starter.now) (count last) (count next) old new new from (at_rest (past_of new) (call_log last)) went
    (at_rest (past_of new) (call_log next))
    (stretch-asked g.D.Disk g.met.D.Disk.only_now (limits_of new) (plan_of new) (may last) (may next) (count last) (count next) new (at_rest (past_of new) (call_log last)) refl refl c.keeps_the_law-in-loop-keys-2.ensures a.may
    (past_of new) (call_log last) (call_log next) refl refl a.asked a.counts) in
    asked

pub returns-then-sees_halt-clause-done : goal.returns-then-sees_halt-clause-done
returns-then-sees_halt-clause-done g c =
    let plan = plan_of c.args.manager.now in
    let past = past_of c.args.manager.now in
    let limits = limits_of c.args.manager.now in
    let may = g.S.Starter.may_return in
    let count = g.S.Starter.faults in
    let call_log = g.S.Starter.call_log in
    let old = c.args.manager.now in
    let from = at_rest past (call_log c.args.starter.now) in
    let i = c.loop-keys.invariant in
    let mid = c.loop-keys.manager in
    let via = at_rest (past_of mid) (call_log c.loop-keys.starter) in
    let new = c.start_round.new.manager in
    let e = c.in_default.ensures in
    let turn : IsTurn plan (past_of mid) (past_of new) (call_log c.start_round.new.starter) = subst (λ (p : Plan). IsTurn p (past_of mid) (past_of new) (call_log c.start_round.new.starter)) i.0.plan_is e.turn in
    let nearer : IsNearerEnd plan (past_of mid) (past_of new) = subst (λ (p : Plan). IsNearerEnd p (past_of mid) (past_of new)) i.0.plan_is e.nearer in
    let went = stretch-on g.D.Disk limits plan (may c.args.starter.now) (may c.loop-keys.starter) (may c.start_round.new.starter) (count c.args.starter.now) (count c.loop-keys.starter) (count c.start_round.new.starter) old mid new from via i.0
    (at_rest (past_of new) (call_log c.start_round.new.starter)) e.went in
    let before = c.is_aborted-before.ensures ∙ ap (λ (p : Plan). is_aborted p (past_of mid)) i.0.plan_is in
    let now = c.is_aborted.ensures ∙ ap (λ (p : Plan). is_aborted p (past_of new)) went.plan_is in
    let flag : is_aborted_between plan (past_of mid) (past_of new) ≡ false = (λ j. not (sym before j) && sym now j) ∙ sym c.is_new.ensures ∙ c.if-is_new.false in
    let last = c.start_round.new.starter in
    let next = c.sees_halt.new.self in
    let a = c.sees_halt.ensures in
    let asked = stretch-on g.D.Disk limits plan (may c.args.starter.now) (may last) (may next) (count c.args.starter.now) (count last) (count next) old new new from (at_rest (past_of new) (call_log last)) went
    (at_rest (past_of new) (call_log next))
    (stretch-asked g.D.Disk g.met.D.Disk.only_now (limits_of new) (plan_of new) (may last) (may next) (count last) (count next) new (at_rest (past_of new) (call_log last)) refl refl c.keeps_the_law-in-loop-keys-2.ensures a.may
    (past_of new) (call_log last) (call_log next) refl refl a.asked a.counts) in
    inl (inr (sym a.is ∙ c.if-sees_halt.true))

pub returns-then-sees_halt-clause-turn : goal.returns-then-sees_halt-clause-turn
returns-then-sees_halt-clause-turn g c =
    let plan = plan_of c.args.manager.now in
    let past = past_of c.args.manager.now in
    let limits = limits_of c.args.manager.now in
    let may = g.S.Starter.may_return in
    let count = g.S.Starter.faults in
    let call_log = g.S.Starter.call_log in
    let old = c.args.manager.now in
    let from = at_rest past (call_log c.args.starter.now) in
    let i = c.loop-keys.invariant in
    let mid = c.loop-keys.manager in
    let via = at_rest (past_of mid) (call_log c.loop-keys.starter) in
    let new = c.start_round.new.manager in
    let e = c.in_default.ensures in
    let turn : IsTurn plan (past_of mid) (past_of new) (call_log c.start_round.new.starter) = subst (λ (p : Plan). IsTurn p (past_of mid) (past_of new) (call_log c.start_round.new.starter)) i.0.plan_is e.turn in
    let nearer : IsNearerEnd plan (past_of mid) (past_of new) = subst (λ (p : Plan). IsNearerEnd p (past_of mid) (past_of new)) i.0.plan_is e.nearer in
    let went = stretch-on g.D.Disk limits plan (may c.args.starter.now) (may c.loop-keys.starter) (may c.start_round.new.starter) (count c.args.starter.now) (count c.loop-keys.starter) (count c.start_round.new.starter) old mid new from via i.0
    (at_rest (past_of new) (call_log c.start_round.new.starter)) e.went in
    let before = c.is_aborted-before.ensures ∙ ap (λ (p : Plan). is_aborted p (past_of mid)) i.0.plan_is in
    let now = c.is_aborted.ensures ∙ ap (λ (p : Plan). is_aborted p (past_of new)) went.plan_is in
    let flag : is_aborted_between plan (past_of mid) (past_of new) ≡ false = (λ j. not (sym before j) && sym now j) ∙ sym c.is_new.ensures ∙ c.if-is_new.false in
    let last = c.start_round.new.starter in
    let next = c.sees_halt.new.self in
    let a = c.sees_halt.ensures in
    let asked = stretch-on g.D.Disk limits plan (may c.args.starter.now) (may last) (may next) (count c.args.starter.now) (count last) (count next) old new new from (at_rest (past_of new) (call_log last)) went
    (at_rest (past_of new) (call_log next))
    (stretch-asked g.D.Disk g.met.D.Disk.only_now (limits_of new) (plan_of new) (may last) (may next) (count last) (count next) new (at_rest (past_of new) (call_log last)) refl refl c.keeps_the_law-in-loop-keys-2.ensures a.may
    (past_of new) (call_log last) (call_log next) refl refl a.asked a.counts) in
    turn-asked (may last) plan past (past_of new) (call_log last) (call_log next) a.asked (turn-before plan past (past_of mid) (past_of new) (call_log last) i.3 turn)

pub returns-then-sees_halt-clause-nearer : goal.returns-then-sees_halt-clause-nearer
returns-then-sees_halt-clause-nearer g c = λ key chosen.
    let plan = plan_of c.args.manager.now in
    let past = past_of c.args.manager.now in
    let limits = limits_of c.args.manager.now in
    let may = g.S.Starter.may_return in
    let count = g.S.Starter.faults in
    let call_log = g.S.Starter.call_log in
    let old = c.args.manager.now in
    let from = at_rest past (call_log c.args.starter.now) in
    let i = c.loop-keys.invariant in
    let mid = c.loop-keys.manager in
    let via = at_rest (past_of mid) (call_log c.loop-keys.starter) in
    let new = c.start_round.new.manager in
    let e = c.in_default.ensures in
    let turn : IsTurn plan (past_of mid) (past_of new) (call_log c.start_round.new.starter) = subst (λ (p : Plan). IsTurn p (past_of mid) (past_of new) (call_log c.start_round.new.starter)) i.0.plan_is e.turn in
    let nearer : IsNearerEnd plan (past_of mid) (past_of new) = subst (λ (p : Plan). IsNearerEnd p (past_of mid) (past_of new)) i.0.plan_is e.nearer in
    let went = stretch-on g.D.Disk limits plan (may c.args.starter.now) (may c.loop-keys.starter) (may c.start_round.new.starter) (count c.args.starter.now) (count c.loop-keys.starter) (count c.start_round.new.starter) old mid new from via i.0
    (at_rest (past_of new) (call_log c.start_round.new.starter)) e.went in
    let before = c.is_aborted-before.ensures ∙ ap (λ (p : Plan). is_aborted p (past_of mid)) i.0.plan_is in
    let now = c.is_aborted.ensures ∙ ap (λ (p : Plan). is_aborted p (past_of new)) went.plan_is in
    let flag : is_aborted_between plan (past_of mid) (past_of new) ≡ false = (λ j. not (sym before j) && sym now j) ∙ sym c.is_new.ensures ∙ c.if-is_new.false in
    let last = c.start_round.new.starter in
    let next = c.sees_halt.new.self in
    let a = c.sees_halt.ensures in
    let asked = stretch-on g.D.Disk limits plan (may c.args.starter.now) (may last) (may next) (count c.args.starter.now) (count last) (count next) old new new from (at_rest (past_of new) (call_log last)) went
    (at_rest (past_of new) (call_log next))
    (stretch-asked g.D.Disk g.met.D.Disk.only_now (limits_of new) (plan_of new) (may last) (may next) (count last) (count next) new (at_rest (past_of new) (call_log last)) refl refl c.keeps_the_law-in-loop-keys-2.ensures a.may
    (past_of new) (call_log last) (call_log next) refl refl a.asked a.counts) in
    elim i.4 [
      | inl same ↦ subst (λ (l : List Record). IsNearerEnd plan l (past_of new)) same nearer
      | inr first ↦ nearer-then plan past (past_of mid) (past_of new) first nearer
    ]

pub returns-then-sees_halt-clause-waits_for_none : goal.returns-then-sees_halt-clause-waits_for_none
returns-then-sees_halt-clause-waits_for_none g c =
    let plan = plan_of c.args.manager.now in
    let past = past_of c.args.manager.now in
    let limits = limits_of c.args.manager.now in
    let may = g.S.Starter.may_return in
    let count = g.S.Starter.faults in
    let call_log = g.S.Starter.call_log in
    let old = c.args.manager.now in
    let from = at_rest past (call_log c.args.starter.now) in
    let i = c.loop-keys.invariant in
    let mid = c.loop-keys.manager in
    let via = at_rest (past_of mid) (call_log c.loop-keys.starter) in
    let new = c.start_round.new.manager in
    let e = c.in_default.ensures in
    let turn : IsTurn plan (past_of mid) (past_of new) (call_log c.start_round.new.starter) = subst (λ (p : Plan). IsTurn p (past_of mid) (past_of new) (call_log c.start_round.new.starter)) i.0.plan_is e.turn in
    let nearer : IsNearerEnd plan (past_of mid) (past_of new) = subst (λ (p : Plan). IsNearerEnd p (past_of mid) (past_of new)) i.0.plan_is e.nearer in
    let went = stretch-on g.D.Disk limits plan (may c.args.starter.now) (may c.loop-keys.starter) (may c.start_round.new.starter) (count c.args.starter.now) (count c.loop-keys.starter) (count c.start_round.new.starter) old mid new from via i.0
    (at_rest (past_of new) (call_log c.start_round.new.starter)) e.went in
    let before = c.is_aborted-before.ensures ∙ ap (λ (p : Plan). is_aborted p (past_of mid)) i.0.plan_is in
    let now = c.is_aborted.ensures ∙ ap (λ (p : Plan). is_aborted p (past_of new)) went.plan_is in
    let flag : is_aborted_between plan (past_of mid) (past_of new) ≡ false = (λ j. not (sym before j) && sym now j) ∙ sym c.is_new.ensures ∙ c.if-is_new.false in
    let last = c.start_round.new.starter in
    let next = c.sees_halt.new.self in
    let a = c.sees_halt.ensures in
    let asked = stretch-on g.D.Disk limits plan (may c.args.starter.now) (may last) (may next) (count c.args.starter.now) (count last) (count next) old new new from (at_rest (past_of new) (call_log last)) went
    (at_rest (past_of new) (call_log next))
    (stretch-asked g.D.Disk g.met.D.Disk.only_now (limits_of new) (plan_of new) (may last) (may next) (count last) (count next) new (at_rest (past_of new) (call_log last)) refl refl c.keeps_the_law-in-loop-keys-2.ensures a.may
    (past_of new) (call_log last) (call_log next) refl refl a.asked a.counts) in
    starts-then _ _ _ (starts-then _ _ _ i.5 c.start_round.ensures.waits_for_none) (starts-asked (may last) (call_log last) (call_log next) a.asked)

pub loop-keys-preserved : goal.loop-keys-preserved
loop-keys-preserved g c =
    let plan = plan_of c.args.manager.now in
    let past = past_of c.args.manager.now in
    let limits = limits_of c.args.manager.now in
    let may = g.S.Starter.may_return in
    let count = g.S.Starter.faults in
    let call_log = g.S.Starter.call_log in
    let old = c.args.manager.now in
    let from = at_rest past (call_log c.args.starter.now) in
    let i = c.loop-keys.invariant in
    let mid = c.loop-keys.manager in
    let via = at_rest (past_of mid) (call_log c.loop-keys.starter) in
    let new = c.start_round.new.manager in
    let e = c.in_default.ensures in
    let turn : IsTurn plan (past_of mid) (past_of new) (call_log c.start_round.new.starter) = subst (λ (p : Plan). IsTurn p (past_of mid) (past_of new) (call_log c.start_round.new.starter)) i.0.plan_is e.turn in
    let nearer : IsNearerEnd plan (past_of mid) (past_of new) = subst (λ (p : Plan). IsNearerEnd p (past_of mid) (past_of new)) i.0.plan_is e.nearer in
    let went = stretch-on g.D.Disk limits plan (may c.args.starter.now) (may c.loop-keys.starter) (may c.start_round.new.starter) (count c.args.starter.now) (count c.loop-keys.starter) (count c.start_round.new.starter) old mid new from via i.0
    (at_rest (past_of new) (call_log c.start_round.new.starter)) e.went in
    let before = c.is_aborted-before.ensures ∙ ap (λ (p : Plan). is_aborted p (past_of mid)) i.0.plan_is in
    let now = c.is_aborted.ensures ∙ ap (λ (p : Plan). is_aborted p (past_of new)) went.plan_is in
    let flag : is_aborted_between plan (past_of mid) (past_of new) ≡ false = (λ j. not (sym before j) && sym now j) ∙ sym c.is_new.ensures ∙ c.if-is_new.false in
    let last = c.start_round.new.starter in
    let next = c.sees_halt.new.self in
    let a = c.sees_halt.ensures in
    let asked = stretch-on g.D.Disk limits plan (may c.args.starter.now) (may last) (may next) (count c.args.starter.now) (count last) (count next) old new new from (at_rest (past_of new) (call_log last)) went
    (at_rest (past_of new) (call_log next))
    (stretch-asked g.D.Disk g.met.D.Disk.only_now (limits_of new) (plan_of new) (may last) (may next) (count last) (count next) new (at_rest (past_of new) (call_log last)) refl refl c.keeps_the_law-in-loop-keys-2.ensures a.may
    (past_of new) (call_log last) (call_log next) refl refl a.asked a.counts) in (
      asked,
      step-asked (may last) plan (past_of new) (call_log last) (call_log next) a.asked (turn.in_step flag),
      turn.going,
      turn-abort_free plan (past_of mid) (past_of new) (call_log last) turn flag ∙ i.3,
      inr (elim i.4 [
        | inl same ↦ subst (λ (l : List Record). IsNearerEnd plan l (past_of new)) same nearer
        | inr first ↦ nearer-then plan past (past_of mid) (past_of new) first nearer
      ]),
      starts-then _ _ _ (starts-then _ _ _ i.5 c.start_round.ensures.waits_for_none) (starts-asked (may last) (call_log last) (call_log next) a.asked),
      sym a.is ∙ c.if-sees_halt.false,
    )
