use Rattle.std.proofs.Common.{◌∙◌, false, sym, arith}
use Rattle.std.proofs.lemmas.Bool.{false≢true}
use Rattle.sched_core.specs.Limits.{member_of}
use Rattle.sched_core.specs.Queued.{members_at}
use Rattle.sched_core.proofs.Members.{same-set}
use Rattle.sched_core.proofs.Settling.{has-within, set-each}
use Rattle.sched_core.proofs.ready.ClassedQueue.take_out.Goals as goal

pub returns-then-was-clause-set : goal.returns-then-was-clause-set
returns-then-was-clause-set c = λ other w.
    let plan = c.args.plan.now in
    let old = c.args.self.now.queues in
    set-each plan c.args.node c.args.class false old c.dequeue.new.self.queues c.dequeue.ensures.set c.dequeue.ensures.others
    (λ k ne has. ne (c.requires.only k (let i = has-within old k (member_of plan c.args.node) has in let m = c.requires.are.many in omega (arith, i, m)) has).1)
    other

pub returns-else-was-clause-set : goal.returns-else-was-clause-set
returns-else-was-clause-set c = λ other w.
    same-set c.args.plan.now c.args.node false (members_at c.args.self.now.queues other) (λ t. absurd (false≢true t))
    (λ f has. false≢true (sym c.if-was.false ∙ (c.requires.only other w has).0))
