use Rattle.std.proofs.Common.{◌≡◌, ◌&&◌, ◌==◌, rules}
use Rattle.sched_core.specs.Queued.{members_at}
use Rattle.sched_core.proofs.Settling.{set-after, set-stays}
use Rattle.sched_core.proofs.ready.ClassedQueue.change.Goals as goal

pub returns-then-before-class-clause-set : goal.returns-then-before-class-clause-set
returns-then-before-class-clause-set c =
    let same : c.args.was ≡ c.args.now = search rules in
    set-stays c.args.plan.now c.args.node c.args.was c.args.now c.args.before c.args.class c.args.self.now.queues same c.if-before-class.true c.requires.there c.requires.only

pub returns-clause-set : goal.returns-clause-set
returns-clause-set c = λ other w.
    set-after c.args.plan.now c.args.node (c.args.now && (c.args.class == other)) (members_at c.args.self.now.queues other) (members_at c.take_out.new.self.queues other) (members_at c.put_in.new.self.queues other)
    (c.take_out.ensures.set other w) (c.put_in.ensures.set other w)
