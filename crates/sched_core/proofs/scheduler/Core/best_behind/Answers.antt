use Rattle.std.proofs.Common.{arith}
use Rattle.sched_core.proofs.Heads.{class-all, all-shut}
use Rattle.sched_core.proofs.scheduler.Core.best_behind.Goals as goal

pub returns-then-lets_none-clause-best : goal.returns-then-lets_none-clause-best
returns-then-lets_none-clause-best c =
    all-shut c.args.self.now.limits c.args.self.now.plan c.args.self.now.past c.args.keys.now c.args.throttles.now c.requires.counted (c.lets_none.ensures c.if-lets_none.true)

pub returns-clause-best : goal.returns-clause-best
returns-clause-best c =
    class-all c.args.self.now.limits c.args.self.now.plan c.args.self.now.past c.args.queue.now.queues c.args.keys.now c.requires.waiting c.loop-class.class
    (let m = c.requires.waiting.are.many in let e = c.classes-class-end.ensures in let t = c.loop-class-test.false in omega (arith, m, e, t))
    c.loop-class.best c.loop-class.invariant.best
