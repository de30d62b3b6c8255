use Rattle.std.proofs.Common.{◌≡◌, false, ap}
use Rattle.sched_core.specs.Queued.{Classed}
use Rattle.sched_core.proofs.Members.{removed-queue}
use Rattle.sched_core.proofs.Settling.{queues-set, own-are, own-members, own-set, own-others}
use Rattle.sched_core.proofs.ready.ClassedQueue.dequeue.Goals as goal

pub returns-clause-are : goal.returns-clause-are
returns-clause-are c =
    let plan = c.args.plan.now in
    let queues = c.self.inside.queues.items in
    let seen = c.args.self.now.queues in
    let same : queues ≡ seen = ap (λ (v : Classed). v.queues) c.self.view_is in
    let own = own-members plan queues seen same c.requires.are c.args.class c.requires.class c.index_mut-queue.result.now _ c.index_mut-queue.ensures.value in
    let ordered = c.members.ensures.ordered in
    queues-set plan queues c.args.class c.remove.new.self (own-are plan queues seen same c.requires.are c.args.class c.requires.class c.index_mut-queue.result.now _ c.index_mut-queue.ensures.value) c.requires.class
    (removed-queue plan c.args.class c.index_mut-queue.result.now c.remove.new.self c.args.node c.member_of-member.result c.remove.result c.member_of-member.ensures ordered own
    c.remove.ensures.refused c.remove.ensures.removed c.remove.ensures.freed c.remove.ensures.unchanged).0

pub returns-clause-set : goal.returns-clause-set
returns-clause-set c =
    let plan = c.args.plan.now in
    let queues = c.self.inside.queues.items in
    let seen = c.args.self.now.queues in
    let same : queues ≡ seen = ap (λ (v : Classed). v.queues) c.self.view_is in
    let own = own-members plan queues seen same c.requires.are c.args.class c.requires.class c.index_mut-queue.result.now _ c.index_mut-queue.ensures.value in
    let ordered = c.members.ensures.ordered in
    own-set plan queues seen same c.requires.are c.args.class c.requires.class c.index_mut-queue.result.now _ c.index_mut-queue.ensures.value c.args.node false c.remove.new.self
    (removed-queue plan c.args.class c.index_mut-queue.result.now c.remove.new.self c.args.node c.member_of-member.result c.remove.result c.member_of-member.ensures ordered own
    c.remove.ensures.refused c.remove.ensures.removed c.remove.ensures.freed c.remove.ensures.unchanged).1

pub returns-clause-others : goal.returns-clause-others
returns-clause-others c =
    let same = ap (λ (v : Classed). v.queues) c.self.view_is in
    own-others c.args.plan.now c.self.inside.queues.items c.args.self.now.queues same c.requires.are c.args.class c.requires.class c.index_mut-queue.result.now _ c.index_mut-queue.ensures.value c.remove.new.self
