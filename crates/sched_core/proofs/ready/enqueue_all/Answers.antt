use Rattle.std.proofs.Common.{◌≡◌, ◌∙◌, ◌<◌, ◌&&◌, ◌==◌, ℕ, false, ap, subst, arith}
use Rattle.node_machine.specs.NodeProgress.{NodeProgress}
use Rattle.run_plan.specs.Plan.{node_at, count_of}
use Rattle.sched_core.specs.Limits.{member_of}
use Rattle.sched_core.specs.States.{is_ready_by, is_ready_at}
use Rattle.sched_core.specs.Queued.{IsSet, class_at, class_by, classes_of, members_at}
use Rattle.sched_core.proofs.Settling.{fill-more, filled-queued}
use Rattle.sched_core.proofs.ready.enqueue_all.Goals as goal

pub change-requires-clause-only : goal.change-requires-clause-only
change-requires-clause-only c = λ other w has.
    let own = (c.loop-node.invariant.only other w (member_of c.args.plan.now c.loop-node.node) has).0 in absurd (omega (arith, own))

pub loop-node-preserved : goal.loop-node-preserved
loop-node-preserved c =
    let plan = c.args.plan.now in let node = c.loop-node.node in
    let is : c.is_ready_by-now.result ≡ is_ready_at plan false c.args.states.now.runs c.args.states.now.left node =
    c.is_ready_by-now.ensures ∙ (λ j. is_ready_by (node_at plan node).done false (c.read-state.ensures.run j) (c.read-state.ensures.left j)) in
    let class : c.class_by-class.result ≡ class_at plan c.args.states.now.runs node =
    c.class_by-class.ensures.is ∙ ap (λ (r : NodeProgress). class_by r.machine.phase (node_at plan node).category) c.read-state.ensures.run in
    let old = c.loop-node.queue.queues in let new = c.change.new.self.queues in
    fill-more plan c.args.states.now.runs c.args.states.now.left node c.loop-node.queue c.change.new.self c.loop-node.invariant c.change.ensures.are c.class_by-class.result c.class_by-class.ensures.within class
    (subst (λ b. (other : ℕ) → other < classes_of plan → IsSet plan node (b && (c.class_by-class.result == other)) (members_at old other) (members_at new other)) is c.change.ensures.set)

pub returns : goal.returns
returns c =
    let all : c.loop-node.node ≡ count_of c.args.plan.now =
    (let test = c.loop-node-test.false in let low = c.loop-node.auto.node-end in let e = c.count-node-end.ensures.is in omega (arith, test, low, e)) in
    record { queued = filled-queued c.args.plan.now c.args.states.now.runs c.args.states.now.left c.loop-node.node c.loop-node.queue all c.loop-node.invariant }
