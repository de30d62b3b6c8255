use Rattle.std.proofs.Common.{◌≡◌, ◌∙◌, ◌+◌, ◌<◌, ◌++◌, ◌∷◌, ℕ, List, [], length, take, drop, replicate, Some, ap, sym, subst, arith, rules}
use Rattle.std.proofs.lemmas.List.{length-replicate}
use Rattle.std.proofs.Math.Seq.{take-append_seam}
use Rattle.node_machine.specs.declared.Key.{Key}
use Rattle.run_plan.specs.Plan.{Plan, count_of}
use Rattle.run_plan.specs.Planned.{IsPlanned}
use Rattle.sched_core.specs.Core.{IsBestBelow}
use Rattle.sched_core.specs.Run.{outstanding}
use Rattle.sched_core.specs.Limits.{throttled_in}
use Rattle.sched_core.specs.Ahead.{launched}
use Rattle.sched_core.specs.Queued.{classes_of, count_at, share}
use Rattle.sched_core.specs.Heads.{IsNextHead, class_of_key}
use Rattle.sched_core.proofs.Shares.{none-at}
use Rattle.sched_core.proofs.Going.{IsGoing, taken-none, head-few, goes-on}
use Rattle.sched_core.proofs.scheduler.Core.ordinary_round.Goals as goal

pub loop-plan-init : goal.loop-plan-init
loop-plan-init c =
    let limits = c.args.self.now.limits in
    let plan = c.args.self.now.plan in
    let past = c.args.self.now.past in
    let queues = c.queue-queue.result.now.queues in
    let keys : c.new-keys.result.items ≡ [] = c.new-keys.ensures.items in
    let zeros : c.in_ok-taken.taken.items ≡ replicate c.classes.result 0 = search rules in
    let counted : c.in-Ok.throttles ≡ throttled_in limits plan (outstanding plan past) = search rules in
    subst (λ (l : List Key). IsGoing limits plan past queues c.args.max l c.in_ok-taken.taken.items c.in-Ok.throttles) (sym keys)
    (record {
      ordinary = λ i d lt. absurd (omega (arith, lt));
      chosen = tt;
      few = omega arith;
      counted = counted;
      heads = taken-none limits plan past queues c.in_ok-taken.taken.items (λ class. ap (λ (l : List ℕ). count_at l class) zeros ∙ none-at c.classes.result class);
      long = ap (λ (l : List ℕ). length l) zeros ∙ length-replicate c.classes.result 0 ∙ c.classes.ensures ∙ c.queue-queue.ensures.are.many;
    })

pub count-requires-clause-room : goal.count-requires-clause-room
count-requires-clause-room c =
    let plan = c.args.self.now.plan in
    let past = c.args.self.now.past in
    let queues = c.queue-queue.result.now.queues in
    let taken = c.loop-plan.taken.items in
    let own : c.class_of_key.result ≡ class_of_key plan c.in-Some.key = c.class_of_key.ensures.is ∙ ap (λ (p : Plan). class_of_key p c.in-Some.key) c.plan-plan.ensures in
    let within : class_of_key plan c.in-Some.key < classes_of plan = (let w = c.class_of_key.ensures.within in let e = ap classes_of c.plan-plan.ensures in omega (arith, w, e, own)) in
    let head : IsNextHead queues taken (class_of_key plan c.in-Some.key) c.in-Some.key.node =
    subst (λ (l : List ℕ). IsNextHead queues l (class_of_key plan c.in-Some.key) c.in-Some.key.node) c.deref.ensures.value c.in-Some.ensures.head in
    let few = head-few plan past queues taken (class_of_key plan c.in-Some.key) c.in-Some.key.node c.queue-queue.ensures within head in
    let same : count_at c.deref_mut.result.now c.class_of_key.result ≡ count_at taken (class_of_key plan c.in-Some.key) = (λ j. count_at (c.deref_mut.ensures.value j) (own j)) in
    let room = c.count-nodes.ensures.room in let is : c.count-nodes.result ≡ count_of plan = c.count-nodes.ensures.is ∙ ap count_of c.plan-plan.ensures in
    omega (arith, few, same, room, is)

pub loop-plan-preserved : goal.loop-plan-preserved
loop-plan-preserved c =
    let limits = c.args.self.now.limits in
    let plan = c.args.self.now.plan in
    let past = c.args.self.now.past in
    let queues = c.queue-queue.result.now.queues in
    let keys = c.loop-plan.keys.items in
    let taken = c.loop-plan.taken.items in
    let going = c.loop-plan.invariant in
    let key = c.in-Some.key in
    let new = c.count.new.counts in
    let planned : IsPlanned plan = subst IsPlanned c.plan-plan.ensures c.graph-graph.ensures.made in
    let own : c.class_of_key.result ≡ class_of_key plan key = c.class_of_key.ensures.is ∙ ap (λ (p : Plan). class_of_key p key) c.plan-plan.ensures in
    let within : class_of_key plan key < classes_of plan = (let w = c.class_of_key.ensures.within in let e = ap classes_of c.plan-plan.ensures in omega (arith, w, e, own)) in
    let head : IsNextHead queues taken (class_of_key plan key) key.node = subst (λ (l : List ℕ). IsNextHead queues l (class_of_key plan key) key.node) c.deref.ensures.value c.in-Some.ensures.head in
    let best : IsBestBelow limits plan (launched past keys) (count_of plan) (Some key) =
    subst (λ (l : List Key). IsBestBelow limits plan (launched past l) (count_of plan) (Some key)) c.deref-in-loop-plan.ensures.value c.in-Some.ensures.best in
    let one : (class : ℕ) → count_at new class ≡ count_at taken class + share (class_of_key plan key) class =
    λ class. c.count.ensures.more class ∙ (λ j. count_at (c.deref_mut.ensures.value j) class + share (own j) class) in
    let long : length new ≡ length taken = c.count.ensures.many ∙ ap (λ (l : List ℕ). length l) c.deref_mut.ensures.value in
    let whole : take c.loop-plan.taken.len (new ++ drop (length new) taken) ≡ new =
    (let e : c.loop-plan.taken.len ≡ length new = search rules in ap (λ n. take n (new ++ drop (length new) taken)) e) ∙ take-append_seam new (drop (length new) taken) in
    let room : length keys < c.args.max = search rules in
    let pushed : c.push.new.self.items ≡ keys ++ key ∷ [] = search rules in
    subst (λ (l : List Key). IsGoing limits plan past queues c.args.max l (take c.loop-plan.taken.len (new ++ drop (length new) taken)) c.count_launch.new.throttles) (sym pushed)
    (subst (λ (l : List ℕ). IsGoing limits plan past queues c.args.max (keys ++ key ∷ []) l c.count_launch.new.throttles) (sym whole)
    (subst (IsGoing limits plan past queues c.args.max (keys ++ key ∷ []) new) (sym c.count_launch.ensures)
    (goes-on limits plan planned past queues c.queue-queue.ensures keys taken new going.heads key best.0 best.1 within head one c.args.max c.loop-plan.throttles going best room long)))
