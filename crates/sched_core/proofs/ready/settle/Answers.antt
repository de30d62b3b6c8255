use Rattle.std.proofs.Common.{◌≡◌, ◌∙◌, ◌<◌, ◌≤◌, ◌&&◌, ◌==◌, ℕ, ap, sym, subst, arith}
use Rattle.std.specs.List.{Contains}
use Rattle.run_plan.specs.Plan.{node_at, count_of}
use Rattle.sched_core.specs.Core.{run_at}
use Rattle.sched_core.specs.Limits.{member_of}
use Rattle.sched_core.specs.States.{NodeStates, is_ready_by}
use Rattle.sched_core.specs.Queued.{IsQueued, IsSet, class_by, classes_of, members_at}
use Rattle.sched_core.proofs.Settling.{settled, settled-final}
use Rattle.sched_core.proofs.ready.settle.Goals as goal

pub change-requires-clause-only : goal.change-requires-clause-only
change-requires-clause-only c = λ other w has.
    let plan = c.args.plan.now in
    let lt : c.args.looked.node < count_of plan = (let t = c.if-node-count.true in let e = c.node-node.ensures in let n = c.count.ensures.is in omega (arith, t, e, n)) in
    let before : c.class_by-before.result ≡ class_by (run_at c.args.states.now.runs c.args.looked.node).machine.phase (node_at plan c.args.looked.node).category =
    c.class_by-before.ensures.is ∙ (λ j. class_by (c.read.ensures.run j).machine.phase (node_at plan c.node-node.result).category)
    ∙ ap (λ n. class_by (run_at c.args.states.now.runs n).machine.phase (node_at plan n).category) c.node-node.ensures in
    let own = c.requires.queued.only other w c.args.looked.node lt (subst (λ n. Contains (members_at c.args.queue.now.queues other) (member_of plan n)) c.node-node.ensures has) in
    (c.requires.was lt ∙ own.0, before ∙ own.1)

pub change-requires-clause-there : goal.change-requires-clause-there
change-requires-clause-there c = λ t.
    let plan = c.args.plan.now in
    let lt : c.args.looked.node < count_of plan = (let t = c.if-node-count.true in let e = c.node-node.ensures in let n = c.count.ensures.is in omega (arith, t, e, n)) in
    let before : c.class_by-before.result ≡ class_by (run_at c.args.states.now.runs c.args.looked.node).machine.phase (node_at plan c.args.looked.node).category =
    c.class_by-before.ensures.is ∙ (λ j. class_by (c.read.ensures.run j).machine.phase (node_at plan c.node-node.result).category)
    ∙ ap (λ n. class_by (run_at c.args.states.now.runs n).machine.phase (node_at plan n).category) c.node-node.ensures in
    subst (λ k. Contains (members_at c.args.queue.now.queues k) (member_of plan c.node-node.result)) (sym before)
    (subst (λ n. Contains (members_at c.args.queue.now.queues (class_by (run_at c.args.states.now.runs c.args.looked.node).machine.phase (node_at plan c.args.looked.node).category)) (member_of plan n)) (sym c.node-node.ensures)
    (c.requires.queued.ready c.args.looked.node lt (sym (c.requires.was lt) ∙ t)))

pub returns-then-node-count-clause-queued : goal.returns-then-node-count-clause-queued
returns-then-node-count-clause-queued c =
    let plan = c.args.plan.now in let state = c.args.looked.state in
    let old = c.args.queue.now.queues in let new = c.change.new.self.queues in
    let now : c.is_ready_by-now.result ≡ is_ready_by (node_at plan c.args.looked.node).done c.args.aborted state.run state.parents_left =
    c.is_ready_by-now.ensures ∙ ap (λ n. is_ready_by (node_at plan n).done c.args.aborted state.run state.parents_left) c.node-node.ensures in
    let class : c.class_by-class.result ≡ class_by state.run.machine.phase (node_at plan c.args.looked.node).category =
    c.class_by-class.ensures.is ∙ ap (λ n. class_by state.run.machine.phase (node_at plan n).category) c.node-node.ensures in
    let lt : c.args.looked.node < count_of plan = (let t = c.if-node-count.true in let e = c.node-node.ensures in let n = c.count.ensures.is in omega (arith, t, e, n)) in
    let set = subst (λ n. (other : ℕ) → other < classes_of plan → IsSet plan n (c.is_ready_by-now.result && (c.class_by-class.result == other)) (members_at old other) (members_at new other)) c.node-node.ensures c.change.ensures.set in
    subst (λ (s : NodeStates). IsQueued plan c.args.aborted s.runs s.left c.change.new.self) (sym c.put.ensures)
    (settled plan c.args.aborted c.args.states.now.runs c.args.states.now.left c.args.looked.node state.run state.parents_left c.args.queue.now c.change.new.self
    c.requires.many.runs c.requires.many.left c.requires.queued lt c.change.ensures.are c.is_ready_by-now.result c.class_by-class.result c.class_by-class.ensures.within now class set)

pub returns-else-node-count-clause-queued : goal.returns-else-node-count-clause-queued
returns-else-node-count-clause-queued c =
    let plan = c.args.plan.now in let state = c.args.looked.state in
    let ge : count_of plan ≤ c.args.looked.node = (let t = c.if-node-count.false in let e = c.node-node.ensures in let n = c.count.ensures.is in omega (arith, t, e, n)) in
    subst (λ (s : NodeStates). IsQueued plan c.args.aborted s.runs s.left c.args.queue.now) (sym c.put-else-node-count.ensures)
    (settled-final plan c.args.aborted c.args.states.now.runs c.args.states.now.left c.args.looked.node state.run state.parents_left c.args.queue.now c.args.queue.now
    c.requires.many.runs c.requires.many.left c.requires.queued ge)
