use Rattle.std.proofs.Common.{◌∙◌, ap}
use Rattle.ready_queue.specs.Queue.{Queue}
use Rattle.sched_core.specs.Queued.{Classed}
use Rattle.sched_core.proofs.Settling.{queues-set, none-members, own-are, own-members, own-new, own-others}
use Rattle.sched_core.proofs.ready.ClassedQueue.clear_class.Goals as goal

pub returns-clause-are : goal.returns-clause-are
returns-clause-are c =
    let plan = c.args.plan.now in
    let queues = c.self.inside.queues.items in
    let same = ap (λ (v : Classed). v.queues) c.self.view_is in
    let own = own-members plan queues c.args.self.now.queues same c.requires.are c.args.class c.requires.class c.index_mut-queue.result.now _ c.index_mut-queue.ensures.value in
    queues-set plan queues c.args.class c.clear.new.self (own-are plan queues c.args.self.now.queues same c.requires.are c.args.class c.requires.class c.index_mut-queue.result.now _ c.index_mut-queue.ensures.value) c.requires.class
    (none-members plan c.args.class c.index_mut-queue.result.now c.clear.new.self own c.clear.ensures.members c.clear.ensures.room)

pub returns-clause-none : goal.returns-clause-none
returns-clause-none c =
    let same = ap (λ (v : Classed). v.queues) c.self.view_is in
    ap (λ (q : Queue). q.members)
    (own-new c.args.plan.now c.self.inside.queues.items c.args.self.now.queues same c.requires.are c.args.class c.requires.class c.index_mut-queue.result.now _ c.index_mut-queue.ensures.value c.clear.new.self)
    ∙ c.clear.ensures.members

pub returns-clause-others : goal.returns-clause-others
returns-clause-others c =
    let same = ap (λ (v : Classed). v.queues) c.self.view_is in
    own-others c.args.plan.now c.self.inside.queues.items c.args.self.now.queues same c.requires.are c.args.class c.requires.class c.index_mut-queue.result.now _ c.index_mut-queue.ensures.value c.clear.new.self
