use Rattle.std.proofs.Common.{◌∙◌, ◌<◌, ◌&&◌, ◌==◌, ℕ, true, sym, subst, arith}
use Rattle.std.proofs.lemmas.Bool.{false≢true, and_parts}
use Rattle.sched_core.specs.Limits.{member_of}
use Rattle.sched_core.specs.Queued.{IsSet, classes_of, members_at}
use Rattle.sched_core.proofs.Members.{same-set}
use Rattle.sched_core.proofs.Settling.{has-within, set-each}
use Rattle.sched_core.proofs.ready.ClassedQueue.put_in.Goals as goal

pub enqueue-requires-clause-absent : goal.enqueue-requires-clause-absent
enqueue-requires-clause-absent c = c.requires.absent c.args.class c.requires.class

pub returns-then-now-clause-set : goal.returns-then-now-clause-set
returns-then-now-clause-set c =
    let plan = c.args.plan.now in
    let old = c.args.self.now.queues in
    subst (λ b. (other : ℕ) → other < classes_of plan → IsSet plan c.args.node (b && (c.args.class == other)) (members_at old other) (members_at c.enqueue.new.self.queues other)) (sym c.if-now.true)
    (λ other w. set-each plan c.args.node c.args.class true old c.enqueue.new.self.queues c.enqueue.ensures.set c.enqueue.ensures.others
    (λ k ne has. c.requires.absent k (let i = has-within old k (member_of plan c.args.node) has in let m = c.requires.are.many in omega (arith, i, m)) has)
    other)

pub returns-else-now-clause-set : goal.returns-else-now-clause-set
returns-else-now-clause-set c = λ other w.
    same-set c.args.plan.now c.args.node (c.args.now && (c.args.class == other)) (members_at c.args.self.now.queues other)
    (λ t. absurd (false≢true (sym c.if-now.false ∙ (and_parts c.args.now (c.args.class == other) t).0)))
    (λ f has. c.requires.absent other w has)
