use Rattle.std.proofs.Common.{◌≡◌, ◌∙◌, true, false, sym, ap}
use Rattle.run_plan.specs.Plan.{Plan, node_at}
use Rattle.throttles.specs.Throttled.{Throttled, may_start}
use Rattle.sched_core.specs.Run.{outstanding}
use Rattle.sched_core.specs.Limits.{lets_in}
use Rattle.sched_core.specs.Ahead.{launched}
use Rattle.sched_core.proofs.Ahead.{behind-none, behind-among, behind-held}
use Rattle.sched_core.proofs.scheduler.Core.startable_behind.Goals as goal

pub returns-then-is_among : goal.returns-then-is_among
returns-then-is_among c =
    sym (behind-among c.args.self.now.limits c.args.self.now.plan c.args.self.now.past c.args.keys.now c.args.node c.requires.node c.in-Some.key (sym c.in-Some.ensures.is) (sym c.is_among.ensures ∙ c.if-is_among.true))

pub returns-then-may_start : goal.returns-then-may_start
returns-then-may_start c =
    let plan = c.args.self.now.plan in
    let key = c.in-Some.key in
    let category : c.category.result ≡ (node_at plan key.node).category = c.category.ensures ∙ ap (λ (s : _). s.category) c.spec.ensures.is ∙ ap (λ (p : Plan). (node_at p key.node).category) (ap (λ (s : _). s.plan) c.self.view_is) in
    let lets : lets_in c.args.self.now.limits plan (outstanding plan (launched c.args.self.now.past c.args.keys.now)) key ≡ true =
    ap (λ (t : Throttled). may_start t key.phase (node_at plan key.node).category) (sym c.requires.counted) ∙ sym (ap (may_start c.args.throttles.now key.phase) category) ∙ sym c.may_start.ensures ∙ c.if-may_start.true in
    sym (behind-held c.args.self.now.limits plan c.args.self.now.past c.args.keys.now c.args.node c.requires.node key (sym c.in-Some.ensures.is) (sym c.is_among.ensures ∙ c.if-is_among.false) true lets)

pub returns-else-may_start : goal.returns-else-may_start
returns-else-may_start c =
    let plan = c.args.self.now.plan in
    let key = c.in-Some.key in
    let category : c.category.result ≡ (node_at plan key.node).category = c.category.ensures ∙ ap (λ (s : _). s.category) c.spec.ensures.is ∙ ap (λ (p : Plan). (node_at p key.node).category) (ap (λ (s : _). s.plan) c.self.view_is) in
    let lets : lets_in c.args.self.now.limits plan (outstanding plan (launched c.args.self.now.past c.args.keys.now)) key ≡ false =
    ap (λ (t : Throttled). may_start t key.phase (node_at plan key.node).category) (sym c.requires.counted) ∙ sym (ap (may_start c.args.throttles.now key.phase) category) ∙ sym c.may_start.ensures ∙ c.if-may_start.false in
    sym (behind-held c.args.self.now.limits plan c.args.self.now.past c.args.keys.now c.args.node c.requires.node key (sym c.in-Some.ensures.is) (sym c.is_among.ensures ∙ c.if-is_among.false) false lets)

pub returns-in-None : goal.returns-in-None
returns-in-None c =
    sym (behind-none c.args.self.now.limits c.args.self.now.plan c.args.self.now.past c.args.keys.now c.args.node c.requires.node (sym c.in-None.ensures.is))
