use Rattle.std.proofs.Common.{arith, rules, ◌≡◌, ◌∙◌, List, [], length, refl, sym, ap, subst}
use Rattle.node_machine.specs.declared.Key.{Key}
use Rattle.node_machine.specs.declared.Outcome.{Outcome}
use Rattle.node_machine.specs.declared.Record.{Record}
use Rattle.run_plan.specs.Plan.{Plan}
use Rattle.sched_core.specs.Run.{outstanding}
use Rattle.sched_core.specs.Ahead.{launched, added, up_to_abort, ends_of}
use Rattle.recovery_manager.specs.Managed.{plan_of, past_of}
use Rattle.job_starter_drive.specs.Causes.{no_memory_for_command}
use Rattle.job_starter_drive.specs.Drives.{At, at_rest, limits_of, AreUnderWay, MayEndAll, IsTurn, IsNearerEnd, list_refused, no_step, none_started}
use Rattle.job_starter_drive.specs.Stretches.{IsStretch}
use Rattle.job_starter_drive.proofs.RoundTurns.{round-turn}
use Rattle.job_starter_drive.proofs.Running.{no_items}
use Rattle.job_starter_drive.proofs.Steps.{on-ok, if-err}
use Rattle.job_starter_drive.proofs.Stretches.{stretch-here, stretch-on, cut-on, cut-still}
use Rattle.job_starter_drive.proofs.Turns.{nearer-then}
use Rattle.job_starter_drive.proofs.Walks.{allows-self}
use Rattle.job_starter_drive.proofs.Ways.{way-launched}
use Rattle.job_starter_drive.proofs.rounds.start_round.Goals as goal

pub returns-in_default-clause-cut : goal.returns-in_default-clause-cut
returns-in_default-clause-cut g c =
    let plan = plan_of c.args.manager.now in
    let past = past_of c.args.manager.now in
    let limits = limits_of c.args.manager.now in
    let may = g.S.Starter.may_return in
    let count = g.S.Starter.faults in
    let call_log = g.S.Starter.call_log c.args.starter.now in
    let old = c.args.manager.now in
    let keys = c.args.keys.now in
    cut-still g.D.Disk g.met.D.Disk.only_now limits plan (may c.args.starter.now) (may c.args.starter.now) (count c.args.starter.now) (count c.args.starter.now) old (at_rest past call_log) refl refl c.keeps_the_law.ensures (allows-self (may c.args.starter.now))
    [] [] call_log _ no_step list_refused (omega arith) (no_memory_for_command refl)

pub returns-in_default-clause-waits_for_none : goal.returns-in_default-clause-waits_for_none
returns-in_default-clause-waits_for_none g c = none_started

pub returns-in-Err-clause-waits_for_none : goal.returns-in-Err-clause-waits_for_none
returns-in-Err-clause-waits_for_none g c = none_started

pub hand_all-requires-clause-under_way : goal.hand_all-requires-clause-under_way
hand_all-requires-clause-under_way g c =
    let plan = plan_of c.args.manager.now in
    let past = past_of c.args.manager.now in
    let limits = limits_of c.args.manager.now in
    let may = g.S.Starter.may_return in
    let count = g.S.Starter.faults in
    let call_log = g.S.Starter.call_log c.args.starter.now in
    let old = c.args.manager.now in
    let keys = c.args.keys.now in
    let mid = c.record_launches.new.manager in
    let went = c.in_default-record_launches.ensures.went in
    subst (λ (p : Plan). AreUnderWay p (past_of mid) call_log keys []) (sym went.plan_is)
    (subst (λ (l : List Record). AreUnderWay plan l call_log keys []) (sym went.here) (way-launched plan past call_log keys c.requires.in_step c.requires.round.few))

pub returns-in-Err-hand_all-clause-cut : goal.returns-in-Err-hand_all-clause-cut
returns-in-Err-hand_all-clause-cut g c =
    let plan = plan_of c.args.manager.now in
    let past = past_of c.args.manager.now in
    let limits = limits_of c.args.manager.now in
    let may = g.S.Starter.may_return in
    let count = g.S.Starter.faults in
    let call_log = g.S.Starter.call_log c.args.starter.now in
    let old = c.args.manager.now in
    let keys = c.args.keys.now in
    let mid = c.record_launches.new.manager in
    let first = stretch-here g.D.Disk limits plan (may c.args.starter.now) (may c.args.starter.now) (count c.args.starter.now) (count c.args.starter.now) old mid (at_rest past call_log) (launched past keys) call_log keys [] c.in_default-record_launches.ensures.went in
    cut-on g.D.Disk limits plan (may c.args.starter.now) (may c.args.starter.now) (may c.hand_all.new.starter) (count c.args.starter.now) (count c.args.starter.now) (count c.hand_all.new.starter) old mid mid (at_rest past call_log) (At (past_of mid) call_log keys []) first
    (g.S.Starter.call_log c.hand_all.new.starter) c.in-Err-hand_all.fault c.in-Err-hand_all.ensures.cut

pub returns-then-is_empty-clause-turn : goal.returns-then-is_empty-clause-turn
returns-then-is_empty-clause-turn g c =
    let plan = plan_of c.args.manager.now in
    let past = past_of c.args.manager.now in
    let limits = limits_of c.args.manager.now in
    let may = g.S.Starter.may_return in
    let count = g.S.Starter.faults in
    let call_log = g.S.Starter.call_log c.args.starter.now in
    let old = c.args.manager.now in
    let keys = c.args.keys.now in
    let mid = c.record_launches.new.manager in
    let first = stretch-here g.D.Disk limits plan (may c.args.starter.now) (may c.args.starter.now) (count c.args.starter.now) (count c.args.starter.now) old mid (at_rest past call_log) (launched past keys) call_log keys [] c.in_default-record_launches.ensures.went in
    let later_log = g.S.Starter.call_log c.hand_all.new.starter in
    let owed = c.hand_all.new.owed.items in
    let both = stretch-on g.D.Disk limits plan (may c.args.starter.now) (may c.args.starter.now) (may c.hand_all.new.starter) (count c.args.starter.now) (count c.args.starter.now) (count c.hand_all.new.starter) old mid mid (at_rest past call_log) (At (past_of mid) call_log keys []) first
    (At (past_of mid) later_log [] owed) c.in_default-hand_all.ensures.went in
    let here = c.in_default-record_launches.ensures.went.here in
    let same = c.in_default-record_launches.ensures.went.plan_is in
    let way : AreUnderWay plan (launched past keys) later_log [] owed = subst (λ (l : List Record). AreUnderWay plan l later_log [] owed) here (subst (λ (p : Plan). AreUnderWay p (past_of mid) later_log [] owed) same c.in_default-hand_all.ensures.under_way) in
    let size : length owed ≡ 0 = search rules in
    let none : owed ≡ [] = no_items owed size in
    subst (λ (l : List Record). IsTurn plan past l later_log) (sym here)
    (subst (λ (o : List (Key × Outcome)). IsTurn plan past (added (launched past keys) (up_to_abort plan (launched past keys) (ends_of o))) later_log) none
    (round-turn limits plan past keys later_log owed c.keeps_the_law.ensures c.requires.going c.requires.round way))

pub returns-then-is_empty-clause-went : goal.returns-then-is_empty-clause-went
returns-then-is_empty-clause-went g c =
    let plan = plan_of c.args.manager.now in
    let past = past_of c.args.manager.now in
    let limits = limits_of c.args.manager.now in
    let may = g.S.Starter.may_return in
    let count = g.S.Starter.faults in
    let call_log = g.S.Starter.call_log c.args.starter.now in
    let old = c.args.manager.now in
    let keys = c.args.keys.now in
    let mid = c.record_launches.new.manager in
    let first = stretch-here g.D.Disk limits plan (may c.args.starter.now) (may c.args.starter.now) (count c.args.starter.now) (count c.args.starter.now) old mid (at_rest past call_log) (launched past keys) call_log keys [] c.in_default-record_launches.ensures.went in
    let later_log = g.S.Starter.call_log c.hand_all.new.starter in
    let owed = c.hand_all.new.owed.items in
    let both = stretch-on g.D.Disk limits plan (may c.args.starter.now) (may c.args.starter.now) (may c.hand_all.new.starter) (count c.args.starter.now) (count c.args.starter.now) (count c.hand_all.new.starter) old mid mid (at_rest past call_log) (At (past_of mid) call_log keys []) first
    (At (past_of mid) later_log [] owed) c.in_default-hand_all.ensures.went in
    let here = c.in_default-record_launches.ensures.went.here in
    let same = c.in_default-record_launches.ensures.went.plan_is in
    let way : AreUnderWay plan (launched past keys) later_log [] owed = subst (λ (l : List Record). AreUnderWay plan l later_log [] owed) here (subst (λ (p : Plan). AreUnderWay p (past_of mid) later_log [] owed) same c.in_default-hand_all.ensures.under_way) in
    let size : length owed ≡ 0 = search rules in
    let none : owed ≡ [] = no_items owed size in
    subst (λ (o : List (Key × Outcome)). IsStretch g.D.Disk limits plan (may c.args.starter.now) (may c.hand_all.new.starter) (count c.args.starter.now) (count c.hand_all.new.starter) old mid (at_rest past call_log) (At (past_of mid) later_log [] o)) none both

pub record_ends-requires-clause-ends : goal.record_ends-requires-clause-ends
record_ends-requires-clause-ends g c =
    subst (λ (o : List (Key × Outcome)). MayEndAll (plan_of c.record_launches.new.manager) (outstanding (plan_of c.record_launches.new.manager) (past_of c.record_launches.new.manager)) o) (sym c.deref.ensures.value)
    c.in_default-hand_all.ensures.under_way.ends

pub record_ends-requires-clause-few : goal.record_ends-requires-clause-few
record_ends-requires-clause-few g c = let few = c.in_default-hand_all.ensures.under_way.few in let size = ap length c.deref.ensures.value in omega (arith, few, size)

pub returns-clause-nearer : goal.returns-clause-nearer
returns-clause-nearer g c =
    let plan = plan_of c.args.manager.now in
    let past = past_of c.args.manager.now in
    let limits = limits_of c.args.manager.now in
    let may = g.S.Starter.may_return in
    let count = g.S.Starter.faults in
    let call_log = g.S.Starter.call_log c.args.starter.now in
    let old = c.args.manager.now in
    let keys = c.args.keys.now in
    let mid = c.record_launches.new.manager in
    on-ok c.record_ends.result _ _
    (λ later. nearer-then plan past (past_of mid) (past_of c.record_ends.new.manager) c.in_default-record_launches.ensures.nearer
    (subst (λ (p : Plan). IsNearerEnd p (past_of mid) (past_of c.record_ends.new.manager)) c.in_default-record_launches.ensures.went.plan_is later)) c.record_ends.ensures.nearer

pub returns-clause-turn : goal.returns-clause-turn
returns-clause-turn g c =
    let plan = plan_of c.args.manager.now in
    let past = past_of c.args.manager.now in
    let limits = limits_of c.args.manager.now in
    let may = g.S.Starter.may_return in
    let count = g.S.Starter.faults in
    let call_log = g.S.Starter.call_log c.args.starter.now in
    let old = c.args.manager.now in
    let keys = c.args.keys.now in
    let mid = c.record_launches.new.manager in
    let first = stretch-here g.D.Disk limits plan (may c.args.starter.now) (may c.args.starter.now) (count c.args.starter.now) (count c.args.starter.now) old mid (at_rest past call_log) (launched past keys) call_log keys [] c.in_default-record_launches.ensures.went in
    let later_log = g.S.Starter.call_log c.hand_all.new.starter in
    let owed = c.deref.result.now in
    let both = stretch-on g.D.Disk limits plan (may c.args.starter.now) (may c.args.starter.now) (may c.hand_all.new.starter) (count c.args.starter.now) (count c.args.starter.now) (count c.hand_all.new.starter) old mid mid (at_rest past call_log) (At (past_of mid) call_log keys []) first
    (At (past_of mid) later_log [] owed)
    (subst (λ (o : List (Key × Outcome)). IsStretch g.D.Disk (limits_of mid) (plan_of mid) (may c.args.starter.now) (may c.hand_all.new.starter) (count c.args.starter.now) (count c.hand_all.new.starter) mid mid (At (past_of mid) call_log keys []) (At (past_of mid) later_log [] o)) (sym c.deref.ensures.value) c.in_default-hand_all.ensures.went) in
    let here = c.in_default-record_launches.ensures.went.here in
    let same = c.in_default-record_launches.ensures.went.plan_is in
    let way : AreUnderWay plan (launched past keys) later_log [] owed = subst (λ (l : List Record). AreUnderWay plan l later_log [] owed) here (subst (λ (p : Plan). AreUnderWay p (past_of mid) later_log [] owed) same (subst (λ (o : List (Key × Outcome)). AreUnderWay (plan_of mid) (past_of mid) later_log [] o) (sym c.deref.ensures.value) c.in_default-hand_all.ensures.under_way)) in
    on-ok c.record_ends.result _ _
    (λ is. subst (λ (l : List Record). IsTurn plan past l later_log)
    (sym (is ∙ (λ j. added (here j) (up_to_abort (same j) (here j) (ends_of owed)))))
    (round-turn limits plan past keys later_log owed c.keeps_the_law.ensures c.requires.going c.requires.round way)) c.record_ends.ensures.past

pub returns-clause-went : goal.returns-clause-went
returns-clause-went g c =
    let plan = plan_of c.args.manager.now in
    let past = past_of c.args.manager.now in
    let limits = limits_of c.args.manager.now in
    let may = g.S.Starter.may_return in
    let count = g.S.Starter.faults in
    let call_log = g.S.Starter.call_log c.args.starter.now in
    let old = c.args.manager.now in
    let keys = c.args.keys.now in
    let mid = c.record_launches.new.manager in
    let first = stretch-here g.D.Disk limits plan (may c.args.starter.now) (may c.args.starter.now) (count c.args.starter.now) (count c.args.starter.now) old mid (at_rest past call_log) (launched past keys) call_log keys [] c.in_default-record_launches.ensures.went in
    let later_log = g.S.Starter.call_log c.hand_all.new.starter in
    let owed = c.deref.result.now in
    let both = stretch-on g.D.Disk limits plan (may c.args.starter.now) (may c.args.starter.now) (may c.hand_all.new.starter) (count c.args.starter.now) (count c.args.starter.now) (count c.hand_all.new.starter) old mid mid (at_rest past call_log) (At (past_of mid) call_log keys []) first
    (At (past_of mid) later_log [] owed)
    (subst (λ (o : List (Key × Outcome)). IsStretch g.D.Disk (limits_of mid) (plan_of mid) (may c.args.starter.now) (may c.hand_all.new.starter) (count c.args.starter.now) (count c.hand_all.new.starter) mid mid (At (past_of mid) call_log keys []) (At (past_of mid) later_log [] o)) (sym c.deref.ensures.value) c.in_default-hand_all.ensures.went) in
    let here = c.in_default-record_launches.ensures.went.here in
    let same = c.in_default-record_launches.ensures.went.plan_is in
    let way : AreUnderWay plan (launched past keys) later_log [] owed = subst (λ (l : List Record). AreUnderWay plan l later_log [] owed) here (subst (λ (p : Plan). AreUnderWay p (past_of mid) later_log [] owed) same (subst (λ (o : List (Key × Outcome)). AreUnderWay (plan_of mid) (past_of mid) later_log [] o) (sym c.deref.ensures.value) c.in_default-hand_all.ensures.under_way)) in
    on-ok c.record_ends.result _ _
    (stretch-on g.D.Disk limits plan (may c.args.starter.now) (may c.hand_all.new.starter) (may c.hand_all.new.starter) (count c.args.starter.now) (count c.hand_all.new.starter) (count c.hand_all.new.starter) old mid c.record_ends.new.manager (at_rest past call_log) (At (past_of mid) later_log [] owed) both
    (at_rest (past_of c.record_ends.new.manager) later_log)) c.record_ends.ensures.went

pub returns-clause-cut : goal.returns-clause-cut
returns-clause-cut g c =
    let plan = plan_of c.args.manager.now in
    let past = past_of c.args.manager.now in
    let limits = limits_of c.args.manager.now in
    let may = g.S.Starter.may_return in
    let count = g.S.Starter.faults in
    let call_log = g.S.Starter.call_log c.args.starter.now in
    let old = c.args.manager.now in
    let keys = c.args.keys.now in
    let mid = c.record_launches.new.manager in
    let first = stretch-here g.D.Disk limits plan (may c.args.starter.now) (may c.args.starter.now) (count c.args.starter.now) (count c.args.starter.now) old mid (at_rest past call_log) (launched past keys) call_log keys [] c.in_default-record_launches.ensures.went in
    let later_log = g.S.Starter.call_log c.hand_all.new.starter in
    let owed = c.deref.result.now in
    let both = stretch-on g.D.Disk limits plan (may c.args.starter.now) (may c.args.starter.now) (may c.hand_all.new.starter) (count c.args.starter.now) (count c.args.starter.now) (count c.hand_all.new.starter) old mid mid (at_rest past call_log) (At (past_of mid) call_log keys []) first
    (At (past_of mid) later_log [] owed)
    (subst (λ (o : List (Key × Outcome)). IsStretch g.D.Disk (limits_of mid) (plan_of mid) (may c.args.starter.now) (may c.hand_all.new.starter) (count c.args.starter.now) (count c.hand_all.new.starter) mid mid (At (past_of mid) call_log keys []) (At (past_of mid) later_log [] o)) (sym c.deref.ensures.value) c.in_default-hand_all.ensures.went) in
    let here = c.in_default-record_launches.ensures.went.here in
    let same = c.in_default-record_launches.ensures.went.plan_is in
    let way : AreUnderWay plan (launched past keys) later_log [] owed = subst (λ (l : List Record). AreUnderWay plan l later_log [] owed) here (subst (λ (p : Plan). AreUnderWay p (past_of mid) later_log [] owed) same (subst (λ (o : List (Key × Outcome)). AreUnderWay (plan_of mid) (past_of mid) later_log [] o) (sym c.deref.ensures.value) c.in_default-hand_all.ensures.under_way)) in
    if-err c.record_ends.result _ _
    (cut-on g.D.Disk limits plan (may c.args.starter.now) (may c.hand_all.new.starter) (may c.hand_all.new.starter) (count c.args.starter.now) (count c.hand_all.new.starter) (count c.hand_all.new.starter) old mid c.record_ends.new.manager (at_rest past call_log) (At (past_of mid) later_log [] owed) both
    later_log) c.record_ends.ensures.cut
