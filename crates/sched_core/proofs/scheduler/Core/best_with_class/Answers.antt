use Rattle.std.proofs.Common.{◌≡◌, ◌∙◌, ◌<◌, ◌+◌, Option, Some, ap, sym, subst, arith}
use Rattle.std.specs.Prelude.{IfSome}
use Rattle.node_machine.specs.declared.Key.{Key}
use Rattle.run_plan.specs.Plan.{Plan, count_of}
use Rattle.sched_core.specs.Ahead.{launched}
use Rattle.sched_core.specs.Core.{IsBestOf, better_of}
use Rattle.sched_core.specs.Limits.{IsBetter}
use Rattle.sched_core.specs.Queued.{count_at, members_at}
use Rattle.sched_core.specs.Heads.{IsNextHead, class_of_key, class_of_next}
use Rattle.sched_core.proofs.Heads.{place-some, place-none, either-some, class-none, class-best, class-head, class-later, class-shut, class-merged, class-nothing, class-worse}
use Rattle.sched_core.proofs.scheduler.Core.best_with_class.Goals as goal

pub returns-in-None-clause-best : goal.returns-in-None-clause-best
returns-in-None-clause-best c =
    let limits = c.args.self.now.limits in
    let plan = c.args.self.now.plan in
    let past = c.args.self.now.past in
    let queues = c.args.queue.now.queues in
    let keys = c.args.keys.now in
    let taken = c.args.taken.now in
    let class = c.args.class in
    class-nothing limits plan past (launched past keys) class c.args.best c.requires.best
    (class-none limits plan past queues c.requires.waiting keys taken c.requires.taken class c.requires.class
    (place-none (members_at queues class) (count_at taken class) (sym c.head.ensures ∙ c.in-None.is)))

pub comes_first-requires-clause-node : goal.comes_first-requires-clause-node
comes_first-requires-clause-node c =
    let limits = c.args.self.now.limits in
    let plan = c.args.self.now.plan in
    let past = c.args.self.now.past in
    let queues = c.args.queue.now.queues in
    let keys = c.args.keys.now in
    let taken = c.args.taken.now in
    let class = c.args.class in
    let at = place-some (members_at queues class) (count_at taken class) c.in-Some.member (sym c.head.ensures ∙ c.in-Some.is) in
    let low = ((c.requires.waiting.are.each class c.requires.class).each c.in-Some.member (count_at taken class, at.0, at.1)).0 in
    let same = ap count_of c.plan.ensures in
    omega (arith, low, same)

pub returns-then-not-comes_first-clause-best : goal.returns-then-not-comes_first-clause-best
returns-then-not-comes_first-clause-best c =
    let limits = c.args.self.now.limits in
    let plan = c.args.self.now.plan in
    let past = c.args.self.now.past in
    let queues = c.args.queue.now.queues in
    let keys = c.args.keys.now in
    let taken = c.args.taken.now in
    let class = c.args.class in
    let at = place-some (members_at queues class) (count_at taken class) c.in-Some.member (sym c.head.ensures ∙ c.in-Some.is) in
    let worse = c.comes_first.ensures c.if-not-comes_first.true in
    let key = worse.0 in
    let best : IsBestOf limits plan (launched past keys) (λ node. (node < count_of plan) × (class_of_next plan past node < class)) (Some key) =
    subst (IsBestOf limits plan (launched past keys) (λ node. (node < count_of plan) × (class_of_next plan past node < class))) worse.1 c.requires.best in
    let not-better = subst (λ (p : Plan). IsBetter p c.in-Some.member.node key.node → ⊥) c.plan.ensures worse.2 in
    subst (IsBestOf limits plan (launched past keys) (λ node. (node < count_of plan) × (class_of_next plan past node < class + 1))) (sym worse.1)
    (class-worse limits plan past (launched past keys) class key best
    (class-later limits plan past queues c.requires.waiting keys taken c.requires.taken class c.requires.class c.in-Some.member at.0 at.1 key best.0 not-better))

pub returns-then-not-lets_class-clause-best : goal.returns-then-not-lets_class-clause-best
returns-then-not-lets_class-clause-best c =
    let limits = c.args.self.now.limits in
    let plan = c.args.self.now.plan in
    let past = c.args.self.now.past in
    let queues = c.args.queue.now.queues in
    let keys = c.args.keys.now in
    let taken = c.args.taken.now in
    let class = c.args.class in
    class-nothing limits plan past (launched past keys) class c.args.best c.requires.best
    (class-shut limits plan past keys c.args.throttles.now c.requires.counted class (λ phase category own. sym (c.lets_class.ensures phase category own) ∙ c.if-not-lets_class.true))

pub startable_behind-next-requires-clause-node : goal.startable_behind-next-requires-clause-node
startable_behind-next-requires-clause-node c =
    let limits = c.args.self.now.limits in
    let plan = c.args.self.now.plan in
    let past = c.args.self.now.past in
    let queues = c.args.queue.now.queues in
    let keys = c.args.keys.now in
    let taken = c.args.taken.now in
    let class = c.args.class in
    let at = place-some (members_at queues class) (count_at taken class) c.in-Some.member (sym c.head.ensures ∙ c.in-Some.is) in
    ((c.requires.waiting.are.each class c.requires.class).each c.in-Some.member (count_at taken class, at.0, at.1)).0

pub returns-else-not-lets_class-clause-best : goal.returns-else-not-lets_class-clause-best
returns-else-not-lets_class-clause-best c =
    let limits = c.args.self.now.limits in
    let plan = c.args.self.now.plan in
    let past = c.args.self.now.past in
    let queues = c.args.queue.now.queues in
    let keys = c.args.keys.now in
    let taken = c.args.taken.now in
    let class = c.args.class in
    let at = place-some (members_at queues class) (count_at taken class) c.in-Some.member (sym c.head.ensures ∙ c.in-Some.is) in
    let next = c.startable_behind-next.result in
    let is : better_of plan c.args.best next ≡ c.better_of.result = sym (c.better_of.ensures ∙ ap (λ (p : Plan). better_of p c.args.best next) c.plan-in-Some.ensures) in
    subst (IsBestOf limits plan (launched past keys) (λ node. (node < count_of plan) × (class_of_next plan past node < class + 1))) is
    (class-merged limits plan past (launched past keys) class c.args.best next c.requires.best
    (class-best limits plan past queues c.requires.waiting keys taken c.requires.taken class c.requires.class c.in-Some.member at.0 at.1 next (sym c.startable_behind-next.ensures)))

pub returns-else-not-lets_class-clause-head : goal.returns-else-not-lets_class-clause-head
returns-else-not-lets_class-clause-head c =
    let limits = c.args.self.now.limits in
    let plan = c.args.self.now.plan in
    let past = c.args.self.now.past in
    let queues = c.args.queue.now.queues in
    let keys = c.args.keys.now in
    let taken = c.args.taken.now in
    let class = c.args.class in
    let at = place-some (members_at queues class) (count_at taken class) c.in-Some.member (sym c.head.ensures ∙ c.in-Some.is) in
    let next = c.startable_behind-next.result in
    let is : better_of plan c.args.best next ≡ c.better_of.result = sym (c.better_of.ensures ∙ ap (λ (p : Plan). better_of p c.args.best next) c.plan-in-Some.ensures) in
    subst (λ (o : Option Key). IfSome o (λ key. IsNextHead queues taken (class_of_key plan key) key.node)) is
    (either-some plan (λ key. IsNextHead queues taken (class_of_key plan key) key.node) c.args.best next c.requires.head
    (class-head limits plan past queues c.requires.waiting keys taken c.requires.taken class c.requires.class c.in-Some.member at.0 at.1 next (sym c.startable_behind-next.ensures)))
