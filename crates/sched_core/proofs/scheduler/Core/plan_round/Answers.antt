use Rattle.std.proofs.Common.{◌≡◌, refl, ◌∙◌, ◌<◌, List, [], ◌∷◌, ◌++◌, length, ap, sym, subst, arith, rules}
use Rattle.node_machine.specs.declared.Key.{Key}
use Rattle.run_plan.specs.Plan.{count_of}
use Rattle.run_plan.specs.Planned.{IsPlanned}
use Rattle.sched_core.specs.Choices.{startable}
use Rattle.sched_core.specs.Ahead.{launched, AreChosen, NothingToStart}
use Rattle.sched_core.specs.Round.{IsRound}
use Rattle.sched_core.proofs.Ahead.{busy-round, idle-round, final-chosen, final-last}
use Rattle.sched_core.proofs.scheduler.Core.plan_round.Goals as goal

empty : (keys : List Key) → length keys ≡ 0 → keys ≡ []
empty [] none = refl
empty (key ∷ keys) none = absurd (omega (arith, none))

pub returns-then-not-is_empty-clause-all : goal.returns-then-not-is_empty-clause-all
returns-then-not-is_empty-clause-all c = λ fewer.
    let some : 0 < length c.in_ok-keys.keys.items = search rules in
    busy-round c.args.self.now.limits c.args.self.now.plan c.args.self.now.past c.args.max c.in_ok-keys.keys.items c.in_ok-keys.ensures.ok some fewer

pub returns-in-None-clause-all : goal.returns-in-None-clause-all
returns-in-None-clause-all c = λ fewer.
    let none : length c.in_ok-keys.keys.items ≡ 0 = search rules in
    let last : c.count.result ≡ count_of c.args.self.now.plan = c.count.ensures.is ∙ ap count_of c.plan-2.ensures in
    idle-round c.args.self.now.limits c.args.self.now.plan c.args.self.now.past c.args.max c.in_ok-keys.keys.items c.in_ok-keys.ensures.ok none
    (ap (startable c.args.self.now.limits c.args.self.now.plan c.args.self.now.past) (sym last) ∙ sym c.in-None.ensures) fewer

pub returns-else-is_err-clause-chosen : goal.returns-else-is_err-clause-chosen
returns-else-is_err-clause-chosen c =
    let limits = c.args.self.now.limits in
    let plan = c.args.self.now.plan in
    let past = c.args.self.now.past in
    let none : c.in_ok-keys.keys.items ≡ [] = empty c.in_ok-keys.keys.items (search rules) in
    let pushed : c.push.new.self.items ≡ c.in_ok-keys.keys.items ++ c.in-Some.key ∷ [] = search rules in
    let last : c.count.result ≡ count_of plan = c.count.ensures.is ∙ ap count_of c.plan-2.ensures in
    let planned : IsPlanned plan = subst IsPlanned c.plan.ensures c.graph-graph.ensures.made in
    let some : 0 < c.args.max = omega (arith, c.if-max-eq0.false) in
    subst (AreChosen limits plan past) (sym (pushed ∙ ap (λ (l : List Key). l ++ c.in-Some.key ∷ []) none))
    (final-chosen limits plan planned past c.args.max (subst (IsRound limits plan past c.args.max) none c.in_ok-keys.ensures.ok) some c.in-Some.key
    (ap (startable limits plan past) (sym last) ∙ sym c.in-Some.ensures))

pub returns-else-is_err-clause-all : goal.returns-else-is_err-clause-all
returns-else-is_err-clause-all c = λ fewer.
    let limits = c.args.self.now.limits in
    let plan = c.args.self.now.plan in
    let past = c.args.self.now.past in
    let none : c.in_ok-keys.keys.items ≡ [] = empty c.in_ok-keys.keys.items (search rules) in
    let pushed : c.push.new.self.items ≡ c.in_ok-keys.keys.items ++ c.in-Some.key ∷ [] = search rules in
    let last : c.count.result ≡ count_of plan = c.count.ensures.is ∙ ap count_of c.plan-2.ensures in
    let planned : IsPlanned plan = subst IsPlanned c.plan.ensures c.graph-graph.ensures.made in
    let some : 0 < c.args.max = omega (arith, c.if-max-eq0.false) in
    subst (λ (l : List Key). NothingToStart limits plan (launched past l)) (sym (pushed ∙ ap (λ (l : List Key). l ++ c.in-Some.key ∷ []) none))
    (final-last limits plan planned past c.args.max (subst (IsRound limits plan past c.args.max) none c.in_ok-keys.ensures.ok) some c.in-Some.key
    (ap (startable limits plan past) (sym last) ∙ sym c.in-Some.ensures))
