-- One node's state is put back, and the queue follows it.
use Rattle.std.proofs.Common.{◌≡◌, ℕ, zero, suc, ◌+◌, ◌<◌, ◌≤◌, Bool, true, false, List, [], ◌∷◌, ◌++◌, ◌&&◌, ◌==◌, length, length-set, get_or, unwrap_or, slice_set, refl, sym, ap, ◌∙◌, subst, arith, eq-eqb, eqb-true}
use Rattle.std.specs.Prelude.{slice_get}
use Rattle.std.specs.List.{Contains}
use Rattle.std.proofs.lemmas.Bool.{false≢true, and_parts}
use Rattle.node_machine.specs.NodeProgress.{NodeProgress}
use Rattle.ready_queue.specs.declared.Member.{Member}
use Rattle.ready_queue.specs.Queue.{Queue, IsOrdered}
use Rattle.run_plan.specs.Plan.{Plan, node_at, count_of}
use Rattle.sched_core.specs.Limits.{member_of}
use Rattle.sched_core.specs.States.{is_ready_by, is_ready_at}
use Rattle.sched_core.specs.Queued.{Classed, AreMembers, AreQueues, AreRooms, count_at, IsQueued, IsSet, class_at, class_by, classes_of, members_at, no_queue, queue_at}
use Rattle.ready_queue.proofs.Edits.{by_lt}
use Rattle.sched_core.proofs.Members.{same-set}
use Rattle.sched_core.proofs.Shares.{by_same}
use Rattle.sched_core.proofs.Sweeps.{run_at-same, run_at-other}

-- an element after its own change, after another's, and set to what it is
pub at-same : {A : Type 0} (xs : List A) (i : ℕ) (x d : A) → i < length xs → unwrap_or (slice_get (slice_set xs i x) i) d ≡ x
at-same [] i x d lt = absurd (omega arith)
at-same (y ∷ ys) zero x d lt = refl
at-same (y ∷ ys) (suc i) x d lt = at-same ys i x d (omega arith)

pub at-other : {A : Type 0} (xs : List A) (i : ℕ) (x d : A) (k : ℕ) → (i ≡ k → ⊥) → unwrap_or (slice_get (slice_set xs i x) k) d ≡ unwrap_or (slice_get xs k) d
at-other [] i x d k ne = refl
at-other (y ∷ ys) zero x d zero ne = absurd (ne refl)
at-other (y ∷ ys) zero x d (suc k) ne = refl
at-other (y ∷ ys) (suc i) x d zero ne = refl
at-other (y ∷ ys) (suc i) x d (suc k) ne = at-other ys i x d k (λ e. ne (ap suc e))

pub set-own : {A : Type 0} (xs : List A) (i : ℕ) (d : A) → i < length xs → slice_set xs i (unwrap_or (slice_get xs i) d) ≡ xs
set-own [] i d lt = absurd (omega arith)
set-own (y ∷ ys) zero d lt = refl
set-own (y ∷ ys) (suc i) d lt = ap (λ zs. y ∷ zs) (set-own ys i d (omega arith))

pub ready-own : (plan : Plan) (aborted : Bool) (runs : List NodeProgress) (left : List ℕ) (node : ℕ) (run : NodeProgress) (l : ℕ) → node < length runs → node < length left
    → is_ready_at plan aborted (slice_set runs node run) (slice_set left node l) node ≡ is_ready_by (node_at plan node).done aborted run l
ready-own plan aborted runs left node run l w w' =
    λ j. is_ready_by (node_at plan node).done aborted (run_at-same runs node run w j) (at-same left node l 0 w' j)

pub ready-other : (plan : Plan) (aborted : Bool) (runs : List NodeProgress) (left : List ℕ) (node : ℕ) (run : NodeProgress) (l n : ℕ) → (node ≡ n → ⊥)
    → is_ready_at plan aborted (slice_set runs node run) (slice_set left node l) n ≡ is_ready_at plan aborted runs left n
ready-other plan aborted runs left node run l n ne =
    λ j. is_ready_by (node_at plan n).done aborted (run_at-other runs node run n ne j) (at-other left node l 0 n ne j)

-- what holds of a value that is not false
true-here : {P : Type 0} (b : Bool) → (b ≡ false → P → ⊥) → P → b ≡ true
true-here true never p = refl
true-here false never p = absurd (never refl p)

-- a class that has a member is one of the queues
pub has-within : (queues : List Queue) (class : ℕ) (member : Member) → Contains (members_at queues class) member → class < length queues
has-within [] class member has = let bad = has.1 in absurd (omega (arith, bad))
has-within (q ∷ queues) zero member has = omega arith
has-within (q ∷ queues) (suc class) member has = let lt = has-within queues class member has in omega (arith, lt)

-- one queue changes
pub queues-set : (plan : Plan) (queues : List Queue) (class : ℕ) (queue : Queue) → AreQueues plan queues → class < classes_of plan → AreMembers plan class queue → AreQueues plan (slice_set queues class queue)
queues-set plan queues class queue are lt own = record {
  many = length-set queues class queue ∙ are.many;
  each = λ other w. by_same class other
      (λ same. subst (λ c. AreMembers plan c (queue_at (slice_set queues class queue) c)) same
      (subst (AreMembers plan class) (sym (at-same queues class queue no_queue (let m = are.many in omega (arith, lt, m)))) own))
      (λ ne. subst (AreMembers plan other) (sym (at-other queues class queue no_queue other ne)) (are.each other w));
}

-- an element that is read, whatever the default
pub get-at : {A : Type 0} (xs : List A) (i : ℕ) (d e : A) → i < length xs → get_or xs i d ≡ unwrap_or (slice_get xs i) e
get-at [] i d e lt = absurd (omega (arith, lt))
get-at (x ∷ xs) zero d e lt = refl
get-at (x ∷ xs) (suc i) d e lt = get-at xs i d e (omega (arith, lt))

-- one queue is read, and another is in its place then
module _ (plan : Plan) (queues seen : List Queue) (same : queues ≡ seen) (are : AreQueues plan seen) (class : ℕ) (lt : class < classes_of plan) (old d : Queue) (is : old ≡ get_or queues class d) where
  pub own-are : AreQueues plan queues
  own-are = subst (AreQueues plan) (sym same) are

  own-is : old ≡ queue_at queues class
  own-is = is ∙ get-at queues class d no_queue (let m = own-are.many in omega (arith, lt, m))

  pub own-members : AreMembers plan class old
  own-members = subst (AreMembers plan class) (sym own-is) (own-are.each class lt)

  pub absent-own : (member : Member) → (Contains (members_at seen class) member → ⊥) → Contains old.members member → ⊥
  absent-own member absent has = absent (subst (λ qs. Contains (members_at qs class) member) same (subst (λ (q : Queue). Contains q.members member) own-is has))

  pub own-new : (new : Queue) → queue_at (slice_set queues class new) class ≡ new
  own-new new = at-same queues class new no_queue (let m = own-are.many in omega (arith, lt, m))

  pub own-set : (node : ℕ) (now : Bool) (new : Queue) → IsSet plan node now old.members new.members → IsSet plan node now (members_at seen class) (members_at (slice_set queues class new) class)
  own-set node now new set =
      subst (λ (ms : List Member). IsSet plan node now ms (members_at (slice_set queues class new) class))
      (ap (λ (q : Queue). q.members) own-is ∙ ap (λ qs. members_at qs class) same)
      (subst (λ (q : Queue). IsSet plan node now old.members q.members) (sym (own-new new)) set)

  pub own-others : (new : Queue) (other : ℕ) → (class ≡ other → ⊥) → queue_at (slice_set queues class new) other ≡ queue_at seen other
  own-others new other ne = at-other queues class new no_queue other ne ∙ ap (λ qs. queue_at qs other) same

-- one class's change seen from each class
pub set-each : (plan : Plan) (node class : ℕ) (now : Bool) (old new : List Queue)
    → IsSet plan node now (members_at old class) (members_at new class) → ((other : ℕ) → (class ≡ other → ⊥) → queue_at new other ≡ queue_at old other)
    → ((other : ℕ) → (class ≡ other → ⊥) → Contains (members_at old other) (member_of plan node) → ⊥)
    → (other : ℕ) → IsSet plan node (now && (class == other)) (members_at old other) (members_at new other)
set-each plan node class now old new set others absent other = by_same class other
    (λ same. subst (λ c. IsSet plan node (now && (class == c)) (members_at old c) (members_at new c)) same
    (subst (λ b. IsSet plan node b (members_at old class) (members_at new class)) (with-own now) set))
    (λ ne. subst (λ (q : Queue). IsSet plan node (now && (class == other)) (members_at old other) q.members) (sym (others other ne))
    (same-set plan node (now && (class == other)) (members_at old other) (λ t. absurd (ne (eqb-true class other (and_parts now (class == other) t).1))) (λ f has. absent other ne has)))
  where
    with-own : (b : Bool) → b ≡ (b && (class == class))
    with-own true = sym (eq-eqb class class refl)
    with-own false = refl

-- a node whose class and readiness stay
pub set-stays : (plan : Plan) (node : ℕ) (was now : Bool) (before class : ℕ) (old : List Queue) → was ≡ now → before ≡ class → (was ≡ true → Contains (members_at old before) (member_of plan node))
    → ((other : ℕ) → other < classes_of plan → Contains (members_at old other) (member_of plan node) → (was ≡ true) × (before ≡ other))
    → (other : ℕ) → other < classes_of plan → IsSet plan node (now && (class == other)) (members_at old other) (members_at old other)
set-stays plan node was now before class old same place there only other w =
    same-set plan node (now && (class == other)) (members_at old other)
    (λ t.
    let p = and_parts now (class == other) t in
    subst (λ c. Contains (members_at old c) (member_of plan node)) (place ∙ eqb-true class other p.1) (there (same ∙ p.0)))
    (λ f has.
    let is = only other w has in
    let now_is : now ≡ true = sym same ∙ is.0 in
    let here : (class == other) ≡ true = eq-eqb class other (sym place ∙ is.1) in
    false≢true (sym f ∙ (λ j. now_is j && here j)))

-- a member is taken out, and then put in or not
pub set-after : (plan : Plan) (node : ℕ) (now : Bool) (old mid new : List Member) → IsSet plan node false old mid → IsSet plan node now mid new → IsSet plan node now old new
set-after plan node now old mid new first next = record {
  kept = λ member has differs. next.kept member (first.kept member has differs) differs;
  others = λ member has differs. first.others member (next.others member has differs) differs;
  there = next.there;
  absent = next.absent;
}

module _ (plan : Plan) (aborted : Bool) (runs : List NodeProgress) (left : List ℕ) (node : ℕ) (run : NodeProgress) (l : ℕ) (old new : Classed)
    (many : length runs ≡ suc (count_of plan)) (many' : length left ≡ suc (count_of plan)) (queued : IsQueued plan aborted runs left old) where
  abbrev runs' : List NodeProgress
  runs' = slice_set runs node run

  abbrev left' : List ℕ
  left' = slice_set left node l

  class-other : (n : ℕ) → (node ≡ n → ⊥) → class_at plan runs' n ≡ class_at plan runs n
  class-other n ne = ap (λ (r : NodeProgress). class_by r.machine.phase (node_at plan n).category) (run_at-other runs node run n ne)

  other-ready : (n : ℕ) → (node ≡ n → ⊥) → is_ready_at plan aborted runs' left' n ≡ is_ready_at plan aborted runs left n
  other-ready n ne = ready-other plan aborted runs left node run l n ne

  -- an ordinary node's
  pub settled : node < count_of plan → AreQueues plan new.queues → (now : Bool) (class : ℕ) → class < classes_of plan
      → now ≡ is_ready_by (node_at plan node).done aborted run l → class ≡ class_by run.machine.phase (node_at plan node).category
      → ((other : ℕ) → other < classes_of plan → IsSet plan node (now && (class == other)) (members_at old.queues other) (members_at new.queues other))
      → IsQueued plan aborted (slice_set runs node run) (slice_set left node l) new
  settled lt are now class w n c set = record {
    are = are;
    ready = λ k low ready. by_same node k
        (λ same.
        let is : now ≡ true = n ∙ sym own ∙ subst (λ m. is_ready_at plan aborted runs' left' m ≡ true) (sym same) ready in
        subst (λ m. Contains (members_at new.queues (class_at plan runs' m)) (member_of plan m)) same
        (subst (λ m. Contains (members_at new.queues m) (member_of plan node)) (sym class-own) ((set class w).there (λ j. is j && eq-eqb class class refl j))))
        (λ ne.
        let was = queued.ready k low (sym (other-ready k ne) ∙ ready) in
        let inside : class_at plan runs k < classes_of plan = (let i = has-within old.queues (class_at plan runs k) (member_of plan k) was in let m = queued.are.many in omega (arith, i, m)) in
        subst (λ m. Contains (members_at new.queues m) (member_of plan k)) (sym (class-other k ne)) ((set (class_at plan runs k) inside).kept (member_of plan k) was (λ e. ne (sym e))));
    only = λ other inside k low has. by_same node k
        (λ same.
        let is = and_parts now (class == other) (true-here (now && (class == other)) (set other inside).absent (subst (λ m. Contains (members_at new.queues other) (member_of plan m)) (sym same) has)) in
        subst (λ m. (is_ready_at plan aborted runs' left' m ≡ true) × (class_at plan runs' m ≡ other)) same (own ∙ sym n ∙ is.0, class-own ∙ eqb-true class other is.1))
        (λ ne.
        let was = queued.only other inside k low ((set other inside).others (member_of plan k) has (λ e. ne (sym e))) in (other-ready k ne ∙ was.0, class-other k ne ∙ was.1));
  }
    where
      own : is_ready_at plan aborted runs' left' node ≡ is_ready_by (node_at plan node).done aborted run l
      own = ready-own plan aborted runs left node run l (omega (arith, lt, many)) (omega (arith, lt, many'))

      class-own : class_at plan runs' node ≡ class
      class-own = ap (λ (r : NodeProgress). class_by r.machine.phase (node_at plan node).category) (run_at-same runs node run (omega (arith, lt, many))) ∙ sym c

  -- FINAL's
  pub settled-final : count_of plan ≤ node → IsQueued plan aborted (slice_set runs node run) (slice_set left node l) old
  settled-final ge = record {
    are = queued.are;
    ready = λ k low ready.
        let ne : node ≡ k → ⊥ = λ e. omega (arith, e, ge, low) in
        subst (λ m. Contains (members_at old.queues m) (member_of plan k)) (sym (class-other k ne)) (queued.ready k low (sym (other-ready k ne) ∙ ready));
    only = λ other inside k low has.
        let ne : node ≡ k → ⊥ = λ e. omega (arith, e, ge, low) in
        let was = queued.only other inside k low has in (other-ready k ne ∙ was.0, class-other k ne ∙ was.1);
  }

-- a queue that was emptied
pub none-members : (plan : Plan) (class : ℕ) (old new : Queue) → AreMembers plan class old → new.members ≡ [] → old.room + length old.members ≤ new.room → AreMembers plan class new
none-members plan class old new are none room = record {
  ordered = subst IsOrdered (sym none) (λ i j d lt len. absurd (omega (arith, len)));
  each = λ member has. let bad = (subst (λ ms. Contains ms member) none has).1 in absurd (omega (arith, bad));
  room = let had = are.room in let now = ap (λ (l : List Member). length l) none in omega (arith, had, now, room);
}

-- after an abort nothing is ready
pub cleared : (plan : Plan) (runs : List NodeProgress) (left : List ℕ) (classed : Classed) → AreQueues plan classed.queues → ((class : ℕ) → class < classes_of plan → members_at classed.queues class ≡ [])
    → IsQueued plan true runs left classed
cleared plan runs left classed are none = record {
  are = are;
  ready = λ node lt ready. absurd (false≢true ready);
  only = λ class w node lt has. let bad = (subst (λ ms. Contains ms (member_of plan node)) (none class w) has).1 in absurd (omega (arith, bad));
}

-- one node more in queues that are filled
pub record IsFilled (plan : Plan) (runs : List NodeProgress) (left : List ℕ) (n : ℕ) (classed : Classed) : Type 0 where
  pub are : AreQueues plan classed.queues
  pub ready : (node : ℕ) → node < n → is_ready_at plan false runs left node ≡ true → Contains (members_at classed.queues (class_at plan runs node)) (member_of plan node)
  pub only : (class : ℕ) → class < classes_of plan → (member : Member) → Contains (members_at classed.queues class) member
      → (member.node < n) × (is_ready_at plan false runs left member.node ≡ true) × (class_at plan runs member.node ≡ class)

pub fill-none : (plan : Plan) (runs : List NodeProgress) (left : List ℕ) (classed : Classed) → AreQueues plan classed.queues → ((class : ℕ) → class < classes_of plan → members_at classed.queues class ≡ [])
    → IsFilled plan runs left 0 classed
fill-none plan runs left classed are none = record {
  are = are;
  ready = λ node lt ready. absurd (omega (arith, lt));
  only = λ class w member has. let bad = (subst (λ ms. Contains ms member) (none class w) has).1 in absurd (omega (arith, bad));
}

pub fill-more : (plan : Plan) (runs : List NodeProgress) (left : List ℕ) (i : ℕ) (old new : Classed) → IsFilled plan runs left i old → AreQueues plan new.queues → (class : ℕ) → class < classes_of plan → class ≡ class_at plan runs i
    → ((other : ℕ) → other < classes_of plan → IsSet plan i (is_ready_at plan false runs left i && (class == other)) (members_at old.queues other) (members_at new.queues other))
    → IsFilled plan runs left (i + 1) new
fill-more plan runs left i old new before are class w c set = record {
  are = are;
  ready = λ k lt ready. by_same i k
      (λ same. subst (λ m. Contains (members_at new.queues (class_at plan runs m)) (member_of plan m)) same
      (subst (λ m. Contains (members_at new.queues m) (member_of plan i)) c
      ((set class w).there (λ j. (subst (λ m. is_ready_at plan false runs left m ≡ true) (sym same) ready) j && eq-eqb class class refl j))))
      (λ ne.
      let was = before.ready k (by_lt k i (λ less. less) (λ ge. absurd (ne (omega (arith, ge, lt))))) ready in
      let inside : class_at plan runs k < classes_of plan = (let j = has-within old.queues (class_at plan runs k) (member_of plan k) was in let m = before.are.many in omega (arith, j, m)) in
      (set (class_at plan runs k) inside).kept (member_of plan k) was (λ e. ne (sym e)));
  only = λ other inside member has. by_same i member.node
      (λ same.
      let is : member ≡ member_of plan i = ((are.each other inside).each member has).1 ∙ ap (member_of plan) (sym same) in
      let own = and_parts (is_ready_at plan false runs left i) (class == other)
      (true-here (is_ready_at plan false runs left i && (class == other)) (set other inside).absent (subst (Contains (members_at new.queues other)) is has)) in (
        omega (arith, same),
        subst (λ m. is_ready_at plan false runs left m ≡ true) same own.0,
        ap (class_at plan runs) (sym same) ∙ sym c ∙ eqb-true class other own.1,
      ))
      (λ ne. let was = before.only other inside member ((set other inside).others member has (λ e. ne (sym e))) in (let lt = was.0 in omega (arith, lt), was.1, was.2));
}

pub filled-queued : (plan : Plan) (runs : List NodeProgress) (left : List ℕ) (n : ℕ) (classed : Classed) → n ≡ count_of plan → IsFilled plan runs left n classed → IsQueued plan false runs left classed
filled-queued plan runs left n classed all filled = record {
  are = filled.are;
  ready = λ node lt ready. filled.ready node (omega (arith, all, lt)) ready;
  only = λ class w node lt has. let own = filled.only class w (member_of plan node) has in (own.1, own.2);
}

-- elements after one more
pub at-before : {A : Type 0} (xs : List A) (x d : A) (k : ℕ) → k < length xs → unwrap_or (slice_get (xs ++ x ∷ []) k) d ≡ unwrap_or (slice_get xs k) d
at-before [] x d k lt = absurd (omega arith)
at-before (y ∷ ys) x d zero lt = refl
at-before (y ∷ ys) x d (suc k) lt = at-before ys x d k (omega arith)

pub at-end : {A : Type 0} (xs : List A) (x d : A) (k : ℕ) → k ≡ length xs → unwrap_or (slice_get (xs ++ x ∷ []) k) d ≡ x
at-end [] x d zero e = refl
at-end [] x d (suc k) e = absurd (omega (arith, e))
at-end (y ∷ ys) x d zero e = absurd (omega (arith, e))
at-end (y ∷ ys) x d (suc k) e = at-end ys x d k (omega (arith, e))

pub each-more : {A : Type 0} (f : ℕ → A) (xs : List A) (x d : A) (n : ℕ) → length xs ≡ n → ((k : ℕ) → k < n → unwrap_or (slice_get xs k) d ≡ f k) → x ≡ f n
    → (k : ℕ) → k < n + 1 → unwrap_or (slice_get (xs ++ x ∷ []) k) d ≡ f k
each-more f xs x d n long before now k lt =
    by_lt k n (λ less. at-before xs x d k (omega (arith, less, long)) ∙ before k less)
    (λ ge. let e : n ≡ k = omega (arith, ge, lt) in at-end xs x d k (omega (arith, e, long)) ∙ now ∙ ap f e)

-- queues without members, with room for all that may wait in them
pub new-queues : (plan : Plan) (counts : List ℕ) (queues : List Queue) → AreRooms plan counts → length queues ≡ length counts
    → ((k : ℕ) → k < length queues → (members_at queues k ≡ []) × (suc (count_at counts k) ≤ (queue_at queues k).room)) → AreQueues plan queues
new-queues plan counts queues rooms many each = record {
  many = many ∙ rooms.many;
  each = λ class w.
      let own = each class (let m = rooms.many in omega (arith, w, m, many)) in
      record {
        ordered = subst IsOrdered (sym own.0) (λ i j d lt len. absurd (omega (arith, len)));
        each = λ member has. let bad = (subst (λ ms. Contains ms member) own.0 has).1 in absurd (omega (arith, bad));
        room = let few = rooms.each class w in let room = own.1 in let none = ap (λ (l : List Member). length l) own.0 in omega (arith, few, room, none);
      };
}

pub queue-more : (counts : List ℕ) (queues more : List Queue) (queue : Queue) (n : ℕ) → length queues ≡ n → more ≡ queues ++ queue ∷ []
    → ((k : ℕ) → k < n → (members_at queues k ≡ []) × (suc (count_at counts k) ≤ (queue_at queues k).room)) → queue.members ≡ [] → suc (count_at counts n) ≤ queue.room
    → (k : ℕ) → k < n + 1 → (members_at more k ≡ []) × (suc (count_at counts k) ≤ (queue_at more k).room)
queue-more counts queues more queue n long is each none room k lt =
    subst (λ (q : Queue). (q.members ≡ []) × (suc (count_at counts k) ≤ q.room)) (sym (ap (λ qs. queue_at qs k) is))
    (by_lt k n (λ less. subst (λ (q : Queue). (q.members ≡ []) × (suc (count_at counts k) ≤ q.room)) (sym (at-before queues queue no_queue k (omega (arith, less, long)))) (each k less))
    (λ ge.
    let e : n ≡ k = omega (arith, ge, lt) in
    subst (λ (q : Queue). (q.members ≡ []) × (suc (count_at counts k) ≤ q.room)) (sym (at-end queues queue no_queue k (omega (arith, e, long)))) (none, subst (λ m. suc (count_at counts m) ≤ queue.room) e room)))
