use Rattle.std.proofs.Common.{◌≡◌, ◌∙◌, ◌++◌, ◌∷◌, [], List, length, length-append, take, drop, get_or, ap, sym, subst, arith, rules}
use Rattle.std.proofs.Math.Seq.{take-append_seam}
use Rattle.ready_queue.specs.Queue.{Queue}
use Rattle.sched_core.specs.Queued.{AreRooms, count_at}
use Rattle.sched_core.proofs.Shares.{get-count}
use Rattle.sched_core.proofs.Settling.{new-queues, queue-more}
use Rattle.sched_core.proofs.ready.ClassedQueue.new.Goals as goal

pub loop-count-preserved : goal.loop-count-preserved
loop-count-preserved c =
    let counts = c.deref-count-items.result.now in
    let i = c.loop-count.count-index in
    let queue = c.in_ok-queue_with_room.field-0 in
    let pushed : c.push.new.self.items ≡ c.loop-count.queues.items ++ queue ∷ [] = c.in_ok-push.ensures.items in
    let made = c.in_ok-queue_with_room.ensures.ok in
    let own : get_or counts i 0 ≡ count_at counts i = get-count counts i 0 c.loop-count-test.true in
    let room = made.1 in
    let long = ap (λ (l : List Queue). length l) pushed in
    let one = length-append c.loop-count.queues.items (queue ∷ []) in
    let many = c.loop-count.invariant.many in
    record {
      many = omega (arith, long, one, many);
      each = queue-more counts c.loop-count.queues.items c.push.new.self.items queue i c.loop-count.invariant.many pushed c.loop-count.invariant.each made.0 (omega (arith, own, room));
    }

pub returns-clause-are : goal.returns-clause-are
returns-clause-are c =
    let plan = c.args.plan.now in
    let counts = c.deref-count-items.result.now in
    let new = c.count_candidates.new.counts in
    let long : c.in_ok-counts.counts.len ≡ length new = search rules in
    let whole : counts ≡ new =
    c.deref-count-items.ensures.value ∙ ap (λ n. take n (new ++ drop (length new) c.in_ok-counts.counts.items)) long ∙ take-append_seam new (drop (length new) c.in_ok-counts.counts.items) in
    let rooms : AreRooms plan counts = subst (AreRooms plan) (sym whole) c.count_candidates.ensures in
    let many = c.loop-count.invariant.many in let test = c.loop-count-test.false in let low = c.loop-count.auto.count-index-end in
    let all : length c.loop-count.queues.items ≡ length counts = omega (arith, many, test, low) in
    new-queues plan counts c.loop-count.queues.items rooms all (λ k lt. c.loop-count.invariant.each k (omega (arith, lt, many)))

pub returns-clause-none : goal.returns-clause-none
returns-clause-none c = λ class w.
    let plan = c.args.plan.now in
    let counts = c.deref-count-items.result.now in
    let new = c.count_candidates.new.counts in
    let long : c.in_ok-counts.counts.len ≡ length new = search rules in
    let whole : counts ≡ new =
    c.deref-count-items.ensures.value ∙ ap (λ n. take n (new ++ drop (length new) c.in_ok-counts.counts.items)) long ∙ take-append_seam new (drop (length new) c.in_ok-counts.counts.items) in
    let rooms : AreRooms plan counts = subst (AreRooms plan) (sym whole) c.count_candidates.ensures in
    let all = rooms.many in let test = c.loop-count-test.false in
    (c.loop-count.invariant.each class (omega (arith, w, all, test))).0
