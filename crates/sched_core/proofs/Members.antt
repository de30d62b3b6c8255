-- The members of a queue of nodes.
use Rattle.std.proofs.Common.{◌≡◌, ℕ, zero, suc, ◌+◌, ◌<◌, ◌≤◌, ⊎_elim, Bool, true, false, ◌==◌, List, [], ◌∷◌, length, map, get_or, refl, sym, ap, ◌∙◌, subst, arith, eqb-true, if◌then◌else◌}
use Rattle.std.specs.Prelude.{Result, Ok, Err, OnOk, OnErr, IsOk, ◌↔◌}
use Rattle.ready_queue.specs.declared.QueueFault.{QueueFault}
use Rattle.std.specs.List.{Contains, insert, remove, list_any, IsDistinct, AllByRecursion}
use Rattle.std.proofs.lemmas.Bool.{false_from_ne_true, or_cases, false≢true}
use Rattle.std.proofs.lemmas.List.{length-map}
use Rattle.std.proofs.lemmas.List.Edits.{length-insert, length-remove}
use Rattle.std.proofs.lemmas.Map.Steps.{length-le_from_distinct_below}
use Rattle.ready_queue.specs.declared.Member.{Member}
use Rattle.ready_queue.specs.Queue.{Queue, ComesBefore, IsOrdered, nodes_of}
use Rattle.ready_queue.proofs.Places.{not-itself}
use Rattle.ready_queue.proofs.Indexed.{member-of}
use Rattle.ready_queue.proofs.Edits.{kept-insert, new-insert, insert-cases, kept-remove, from-remove, pairs-removed}
use Rattle.run_plan.specs.Plan.{Plan, count_of}
use Rattle.sched_core.specs.Limits.{member_of}
use Rattle.ready_queue.proofs.Edits.{by_lt}
use Rattle.sched_core.specs.Bound.{sum_below}
use Rattle.sched_core.specs.Queued.{AreMembers, IsSet, may_be_of, candidates}
use Rattle.sched_core.proofs.Shares.{by_same, candidates-few}

-- how many of the numbers below one pass a test
abbrev pub rank : (ℕ → Bool) → ℕ → ℕ
rank test n = sum_below (λ node. if test node then 1 else 0) n

rank-more : (test : ℕ → Bool) (a b : ℕ) → test a ≡ true → a < b → rank test a < rank test b
rank-more test a zero is lt = absurd (omega (arith, lt))
rank-more test a (suc b) is lt = by_same a b here (later (rank-more test a b is))
  where
    here : a ≡ b → rank test a < (if test b then 1 else 0) + rank test b
    here e =
        let passes : test b ≡ true = ap test (sym e) ∙ is in
        let step : rank test a < 1 + rank test b = (let same = ap (rank test) e in omega (arith, same)) in
        subst (λ (c : Bool). rank test a < (if c then 1 else 0) + rank test b) (sym passes) step

    later : (a < b → rank test a < rank test b) → (a ≡ b → ⊥) → rank test a < (if test b then 1 else 0) + rank test b
    later below ne =
        let less : a < b = by_lt a b (λ l. l) (λ ge. absurd (ne (omega (arith, ge, lt)))) in
        let before = below less in omega (arith, before)

-- Members in order, each of a node of its own below a number that passes a test, are no more than there are such numbers.
tail-has : (x : Member) (xs : List Member) (member : Member) → Contains xs member → Contains (x ∷ xs) member
tail-has x xs member has = (suc has.0, (let l = has.1 in omega (arith, l)), has.2)

module _ (plan : Plan) (test : ℕ → Bool) where
  ranks-apart : (x y : Member) → x ≡ member_of plan x.node → y ≡ member_of plan y.node → test x.node ≡ true → test y.node ≡ true → ComesBefore x y → rank test x.node ≡ rank test y.node → ⊥
  ranks-apart x y own its is too before e =
      by_lt x.node y.node (λ lt. let l = rank-more test x.node y.node is lt in omega (arith, l, e))
      (λ ge. by_lt y.node x.node (λ lt. let l = rank-more test y.node x.node too lt in omega (arith, l, e))
      (λ le.
      let same : x ≡ y = own ∙ ap (member_of plan) (let n : x.node ≡ y.node = omega (arith, ge, le) in n) ∙ sym its in
      not-itself y (subst (λ m. ComesBefore m y) same before)))

  apart : (x : Member) (xs : List Member) → x ≡ member_of plan x.node → test x.node ≡ true → ((k : ℕ) (d : Member) → k < length xs → ComesBefore x (get_or xs k d))
      → ((m : Member) → Contains xs m → (m ≡ member_of plan m.node) × (test m.node ≡ true)) → AllByRecursion (λ y. (rank test x.node == y) ≡ false) (map (λ (m : Member). rank test m.node) xs)
  apart x [] own is before each = tt
  apart x (y ∷ ys) own is before each =
      let its = each y (zero, omega arith, refl) in (
        false_from_ne_true _ (λ t. ranks-apart x y own its.0 is its.1 (before zero y (omega arith)) (eqb-true (rank test x.node) (rank test y.node) t)),
        apart x ys own is (λ k d lt. before (suc k) d (omega (arith, lt))) (λ m has. each m (tail-has y ys m has)),
      )

  distinct : (members : List Member) → IsOrdered members → ((m : Member) → Contains members m → (m ≡ member_of plan m.node) × (test m.node ≡ true))
      → IsDistinct (λ a b. a == b) (map (λ (m : Member). rank test m.node) members)
  unfolding IsDistinct
  distinct [] ordered each = tt
  distinct (x ∷ xs) ordered each =
      let own = each x (zero, omega arith, refl) in (
        apart x xs own.0 own.1 (λ k d lt. ordered zero (suc k) d (omega arith) (omega (arith, lt))) (λ m has. each m (tail-has x xs m has)),
        distinct xs (λ i j d lt len. ordered (suc i) (suc j) d (omega (arith, lt)) (omega (arith, len))) (λ m has. each m (tail-has x xs m has)),
      )

  below : (n : ℕ) (members : List Member) → ((m : Member) → Contains members m → (m.node < n) × (test m.node ≡ true)) → (q : ℕ) → list_any (λ y. q == y) (map (λ (m : Member). rank test m.node) members) ≡ true → q < rank test n
  below n [] each q h = absurd (false≢true h)
  below n (x ∷ xs) each q h =
      ⊎_elim (λ here.
      let e = eqb-true q (rank test x.node) here in let own = each x (zero, omega arith, refl) in let l = rank-more test x.node n own.1 own.0 in omega (arith, e, l))
      (λ later. below n xs (λ m has. each m (tail-has x xs m has)) q later) (or_cases _ _ h)

pub few-members : (plan : Plan) (class : ℕ) (members : List Member) → IsOrdered members
    → ((m : Member) → Contains members m → (m.node < count_of plan) × (m ≡ member_of plan m.node) × (may_be_of plan class m.node ≡ true)) → length members ≤ candidates plan class
few-members plan class members ordered each =
    let few = length-le_from_distinct_below (map (λ (m : Member). rank (may_be_of plan class) m.node) members) (candidates plan class)
    (distinct plan (may_be_of plan class) members ordered (λ m has. let e = each m has in (e.1, e.2)))
    (below plan (may_be_of plan class) (count_of plan) members (λ m has. let e = each m has in (e.0, e.2))) in
    let same = length-map members (λ (m : Member). rank (may_be_of plan class) m.node) in
    omega (arith, few, same)

-- so there is room
pub queue-room : (plan : Plan) (class : ℕ) (queue : Queue) → AreMembers plan class queue → 0 < queue.room
queue-room plan class queue are = let few = few-members plan class queue.members are.ordered are.each in let room = are.room in omega (arith, few, room)

pub members-few : (plan : Plan) (class : ℕ) (queue : Queue) → AreMembers plan class queue → length queue.members ≤ count_of plan
members-few plan class queue are =
    let few = few-members plan class queue.members are.ordered are.each in
    let all = candidates-few plan class in omega (arith, few, all)

-- the members of a queue with one more, and with one less
pub are-more : (plan : Plan) (class : ℕ) (old new : Queue) (node place : ℕ) → AreMembers plan class old → IsOrdered new.members → node < count_of plan → may_be_of plan class node ≡ true → place ≤ length old.members
    → new.members ≡ insert old.members place (member_of plan node) → old.room ≤ new.room + 1 → AreMembers plan class new
are-more plan class old new node place are ordered lt may within is room = record {
  ordered = ordered;
  each = λ member has. ⊎_elim
      (λ (same : member_of plan node ≡ member). subst (λ (m : Member). (m.node < count_of plan) × (m ≡ member_of plan m.node) × (may_be_of plan class m.node ≡ true)) same (lt, refl, may))
      (λ before. are.each member before)
      (insert-cases old.members place (member_of plan node) within member (subst (λ ms. Contains ms member) is has));
  room =
      let long = length-insert old.members place (member_of plan node) within in let same = ap (λ (ms : List Member). length ms) is in
      let r = are.room in omega (arith, long, same, r, room);
}

pub are-less : (plan : Plan) (class : ℕ) (old new : Queue) (place : ℕ) → AreMembers plan class old → IsOrdered new.members → place < length old.members
    → new.members ≡ remove old.members place → ((n : ℕ) → n ≤ length old.members + old.room → n ≤ length new.members + new.room) → AreMembers plan class new
are-less plan class old new place are ordered inside is room = record {
  ordered = ordered;
  each = λ member has. are.each member (from-remove old.members place inside member (subst (λ ms. Contains ms member) is has));
  room = room (suc (candidates plan class)) are.room;
}

-- a queue whose members stay
pub same-set : (plan : Plan) (node : ℕ) (now : Bool) (members : List Member) → (now ≡ true → Contains members (member_of plan node))
    → (now ≡ false → Contains members (member_of plan node) → ⊥) → IsSet plan node now members members
same-set plan node now members there absent = record { kept = λ m has differs. has; others = λ m has differs. has; there = there; absent = absent }

-- where a node is there, its member is
of-node : (plan : Plan) (class : ℕ) (queue : Queue) (node : ℕ) → AreMembers plan class queue → Contains (nodes_of queue.members) node → Contains queue.members (member_of plan node)
of-node plan class queue node are has =
    let found = member-of queue.members node has in
    subst (Contains queue.members) ((are.each found.0 found.1).1 ∙ ap (member_of plan) found.2) found.1

-- what adding a node's member makes of a queue
pub added-queue : (plan : Plan) (class : ℕ) (old new : Queue) (node : ℕ) (member : Member) (r : Result Unit QueueFault) → member ≡ member_of plan node → IsOrdered new.members → node < count_of plan → may_be_of plan class node ≡ true → AreMembers plan class old
    → (Contains old.members (member_of plan node) → ⊥) → (IsOk r ↔ (Contains (nodes_of old.members) member.node → ⊥))
    → OnOk r ((place : ℕ) × (place ≤ length old.members) × (new.members ≡ insert old.members place member)) → old.room ≤ new.room + 1
    → AreMembers plan class new × IsSet plan node true old.members new.members
added-queue plan class old new node member (Err e) is ordered lt may are absent refused added room =
    absurd (false≢true (refused.1 (λ has. absent (of-node plan class old node are
    (subst (Contains (nodes_of old.members)) (ap (λ (m : Member). m.node) is) has)))))
added-queue plan class old new node member (Ok x) is ordered lt may are absent refused added room =
    let at : new.members ≡ insert old.members added.0 (member_of plan node) = added.2 ∙ ap (insert old.members added.0) is in (
      are-more plan class old new node added.0 are ordered lt may added.1 at room,
      record {
        kept = λ m has differs. subst (λ ms. Contains ms m) (sym at) (kept-insert old.members added.0 (member_of plan node) added.1 m has);
        others = λ m has differs. ⊎_elim (λ (same : member_of plan node ≡ m). absurd (differs (ap (λ (k : Member). k.node) (sym same)))) (λ before. before)
            (insert-cases old.members added.0 (member_of plan node) added.1 m (subst (λ ms. Contains ms m) at has));
        there = λ t. subst (λ ms. Contains ms (member_of plan node)) (sym at) (new-insert old.members added.0 (member_of plan node) added.1);
        absent = λ f. absurd (false≢true (sym f));
      },
    )

-- and taking it out
pub removed-queue : (plan : Plan) (class : ℕ) (old new : Queue) (node : ℕ) (member : Member) (r : Result Unit QueueFault) → member ≡ member_of plan node → IsOrdered new.members → AreMembers plan class old
    → (IsOk r ↔ Contains old.members member)
    → OnOk r ((place : ℕ) × (place < length old.members) × (get_or old.members place member ≡ member) × (new.members ≡ remove old.members place))
    → OnOk r (old.room + 1 ≤ new.room) → OnErr r (new ≡ old)
    → AreMembers plan class new × IsSet plan node false old.members new.members
removed-queue plan class old new node member (Ok x) is ordered are refused removed freed same =
    let long = length-remove old.members removed.0 removed.1 in let len = ap (λ (ms : List Member). length ms) removed.3 in (
      are-less plan class old new removed.0 are ordered removed.1 removed.3 (λ n le. let at = removed.1 in omega (arith, le, long, len, freed, at)),
      record {
        kept = λ m has differs. subst (λ ms. Contains ms m) (sym removed.3)
            (kept-remove old.members removed.0 member removed.1 removed.2 m has (λ one. differs (sym (ap (λ (k : Member). k.node) (sym is ∙ one)))));
        others = λ m has differs. from-remove old.members removed.0 removed.1 m (subst (λ ms. Contains ms m) removed.3 has);
        there = λ t. absurd (false≢true t);
        absent = λ f has. ⊎_elim (not-itself member) (not-itself member)
            (pairs-removed ComesBefore old.members removed.0 member removed.1 removed.2 are.ordered member (subst (Contains (remove old.members removed.0)) (sym is) (subst (λ ms. Contains ms (member_of plan node)) removed.3 has)));
      },
    )
removed-queue plan class old new node member (Err e) is ordered are refused removed freed same = (
  subst (AreMembers plan class) (sym same) are,
  subst (λ (q : Queue). IsSet plan node false old.members q.members) (sym same)
      (same-set plan node false old.members (λ t. absurd (false≢true t)) (λ f has. false≢true (refused.1 (subst (Contains old.members) (sym is) has)))),
)
