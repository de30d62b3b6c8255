use Rattle.std.proofs.Common.{◌≡◌, true, ap}
use Rattle.sched_core.specs.Limits.{member_of}
use Rattle.sched_core.specs.Queued.{Classed}
use Rattle.sched_core.proofs.Members.{queue-room, added-queue}
use Rattle.sched_core.proofs.Settling.{queues-set, own-are, own-members, own-set, own-others, absent-own}
use Rattle.sched_core.proofs.ready.ClassedQueue.enqueue.Goals as goal

pub add-requires : goal.add-requires
add-requires c =
    let plan = c.args.plan.now in
    let queues = c.self.inside.queues.items in
    let seen = c.args.self.now.queues in
    let same : queues ≡ seen = ap (λ (v : Classed). v.queues) c.self.view_is in
    let own = own-members plan queues seen same c.requires.are c.args.class c.requires.class c.index_mut-queue.result.now _ c.index_mut-queue.ensures.value in
    queue-room plan c.args.class c.index_mut-queue.result.now own

pub returns-clause-are : goal.returns-clause-are
returns-clause-are c =
    let plan = c.args.plan.now in
    let queues = c.self.inside.queues.items in
    let seen = c.args.self.now.queues in
    let same : queues ≡ seen = ap (λ (v : Classed). v.queues) c.self.view_is in
    let own = own-members plan queues seen same c.requires.are c.args.class c.requires.class c.index_mut-queue.result.now _ c.index_mut-queue.ensures.value in
    let ordered = c.members.ensures.ordered in
    queues-set plan queues c.args.class c.add.new.self (own-are plan queues seen same c.requires.are c.args.class c.requires.class c.index_mut-queue.result.now _ c.index_mut-queue.ensures.value) c.requires.class
    (added-queue plan c.args.class c.index_mut-queue.result.now c.add.new.self c.args.node c.member_of-member.result c.add.result c.member_of-member.ensures ordered c.requires.node c.requires.may own
    (absent-own plan queues seen same c.requires.are c.args.class c.requires.class c.index_mut-queue.result.now _ c.index_mut-queue.ensures.value (member_of plan c.args.node) c.requires.absent)
    c.add.ensures.refused c.add.ensures.added c.add.ensures.room).0

pub returns-clause-set : goal.returns-clause-set
returns-clause-set c =
    let plan = c.args.plan.now in
    let queues = c.self.inside.queues.items in
    let seen = c.args.self.now.queues in
    let same : queues ≡ seen = ap (λ (v : Classed). v.queues) c.self.view_is in
    let own = own-members plan queues seen same c.requires.are c.args.class c.requires.class c.index_mut-queue.result.now _ c.index_mut-queue.ensures.value in
    let ordered = c.members.ensures.ordered in
    own-set plan queues seen same c.requires.are c.args.class c.requires.class c.index_mut-queue.result.now _ c.index_mut-queue.ensures.value c.args.node true c.add.new.self
    (added-queue plan c.args.class c.index_mut-queue.result.now c.add.new.self c.args.node c.member_of-member.result c.add.result c.member_of-member.ensures ordered c.requires.node c.requires.may own
    (absent-own plan queues seen same c.requires.are c.args.class c.requires.class c.index_mut-queue.result.now _ c.index_mut-queue.ensures.value (member_of plan c.args.node) c.requires.absent)
    c.add.ensures.refused c.add.ensures.added c.add.ensures.room).1

pub returns-clause-others : goal.returns-clause-others
returns-clause-others c =
    let same = ap (λ (v : Classed). v.queues) c.self.view_is in
    own-others c.args.plan.now c.self.inside.queues.items c.args.self.now.queues same c.requires.are c.args.class c.requires.class c.index_mut-queue.result.now _ c.index_mut-queue.ensures.value c.add.new.self
