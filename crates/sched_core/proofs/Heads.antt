-- The best of what may be started is the best of the heads of the classes: within a class all phases are let in, or none.
use Rattle.std.proofs.Common.{◌≡◌, ℕ, zero, suc, ◌+◌, ◌<◌, ◌≤◌, inl, inr, Bool, true, false, ◌||◌, List, [], ◌∷◌, length, get_or, Option, Some, None, refl, sym, ap, ◌∙◌, subst, arith, if◌then◌else◌}
use Rattle.std.specs.Prelude.{IfSome, slice_get}
use Rattle.std.specs.List.{All, Contains}
use Rattle.std.proofs.lemmas.Bool.{and_from, and_parts, false≢true, false_from_ne_true}
use Rattle.std.proofs.lemmas.List.{get_or_default}
use Rattle.node_machine.specs.declared.Key.{Key}
use Rattle.node_machine.specs.declared.Phase.{Phase}
use Rattle.node_machine.specs.declared.Phase.TheVariants.{Pre, Job, Post}
use Rattle.node_machine.specs.declared.Record.{Record}
use Rattle.throttles.specs.declared.Limits.{Limits}
use Rattle.throttles.specs.Throttled.{Throttled, may_start}
use Rattle.ready_queue.specs.declared.Member.{Member}
use Rattle.ready_queue.specs.Queue.{Queue, ComesBefore, comes_before}
use Rattle.ready_queue.proofs.Places.{trans, not-itself}
use Rattle.ready_queue.proofs.Edits.{by_lt}
use Rattle.run_plan.specs.Plan.{Plan, node_at, count_of}
use Rattle.sched_core.specs.Run.{next, outstanding, is_among, is_same, is_ready}
use Rattle.sched_core.specs.Core.{IsBestOf, IsBestBelow, better_of}
use Rattle.sched_core.specs.Choices.{launchable, startable}
use Rattle.sched_core.specs.Limits.{member_of, throttled_in, lets_in, IsBetter}
use Rattle.sched_core.specs.Ahead.{launch_of, launched}
use Rattle.sched_core.specs.Queued.{class_by, class_of, classes_of, count_at, members_at}
use Rattle.sched_core.specs.Heads.{AreWaiting, AreHeadsTaken, IsNextHead, class_of_key, class_of_next, next_phase}
use Rattle.sched_core.proofs.Keys.{same-eq}
use Rattle.sched_core.proofs.Settling.{has-within}
use Rattle.sched_core.proofs.Leaf.{key-node}
use Rattle.sched_core.proofs.Moves.{launchable-next, ready-next}
use Rattle.sched_core.proofs.Alone.{ready-before}
use Rattle.sched_core.proofs.Best.{startable-parts, startable-node, merged}
use Rattle.sched_core.proofs.Queues.{startable-ready, ready-launchable}
use Rattle.sched_core.proofs.Ahead.{behind-none, behind-among, behind-held}

-- phases of one class are let in alike
start-same : (t : Throttled) (phase : Phase) (category : Option ℕ) (other : Phase) (its : Option ℕ) → class_of phase category ≡ class_of other its
    → may_start t phase category ≡ may_start t other its
start-same t Pre c Pre d e = refl
start-same t Pre c Post d e = absurd (omega (arith, e))
start-same t Pre c Job None e = absurd (omega (arith, e))
start-same t Pre c Job (Some place) e = absurd (omega (arith, e))
start-same t Post c Pre d e = absurd (omega (arith, e))
start-same t Post c Post d e = refl
start-same t Post c Job None e = absurd (omega (arith, e))
start-same t Post c Job (Some place) e = absurd (omega (arith, e))
start-same t Job None Pre d e = absurd (omega (arith, e))
start-same t Job None Post d e = absurd (omega (arith, e))
start-same t Job None Job None e = refl
start-same t Job None Job (Some place) e = absurd (omega (arith, e))
start-same t Job (Some place) Pre d e = absurd (omega (arith, e))
start-same t Job (Some place) Post d e = absurd (omega (arith, e))
start-same t Job (Some place) Job None e = absurd (omega (arith, e))
start-same t Job (Some place) Job (Some other) e = let same : place ≡ other = omega (arith, e) in ap (λ k. may_start t Job (Some k)) same

-- what holds of all keys holds of one that is among them
all-among : (P : Key → Type 0) (keys : List Key) → All P keys → (key : Key) → is_among key keys ≡ true → P key
all-among P [] all key among = absurd (false≢true among)
all-among P (other ∷ keys) all key among = go (is_same key other) refl (all-among P keys (λ i d lt. all (suc i) d (omega (arith, lt))) key)
  where
    go : (b : Bool) → is_same key other ≡ b → (is_among key keys ≡ true → P key) → P key
    go true same later = subst P (sym (same-eq key other same)) (all zero other (omega arith))
    go false same later = later ((λ j. sym same j || is_among key keys) ∙ among)

-- a member that is read at a place
pub place-some : (members : List Member) (i : ℕ) (member : Member) → slice_get members i ≡ Some member → (i < length members) × (get_or members i member ≡ member)
place-some [] i member e = absurd cc
place-some (m ∷ members) zero member e = (omega arith, cc)
place-some (m ∷ members) (suc i) member e = let own = place-some members i member e in ((let lt = own.0 in omega (arith, lt)), own.1)

pub place-none : (members : List Member) (i : ℕ) → slice_get members i ≡ None → length members ≤ i
place-none [] i e = omega arith
place-none (m ∷ members) zero e = absurd cc
place-none (m ∷ members) (suc i) e = let own = place-none members i e in omega (arith, own)

-- the better of two is one of them
pub either-some : (plan : Plan) (P : Key → Type 0) (best next : Option Key) → IfSome best P → IfSome next P → IfSome (better_of plan best next) P
either-some plan P None next b n = n
either-some plan P (Some best) None b n = b
either-some plan P (Some best) (Some next) b n = go (comes_before (member_of plan next.node) (member_of plan best.node))
  where
    go : (t : Bool) → IfSome (if t then Some next else Some best) P
    go true = n
    go false = b

-- what is ready once phases are launched was ready
ready-all : (plan : Plan) (past : List Record) (keys : List Key) (node : ℕ) → is_ready plan (launched past keys) node ≡ true → is_ready plan past node ≡ true
ready-all plan past [] node ready = ready
ready-all plan past (key ∷ keys) node ready = ready-before plan past key _ node (ready-all plan (launch_of past key ∷ past) keys node ready)

next-all : (plan : Plan) (past : List Record) (keys : List Key) (node : ℕ) → next plan (launched past keys) node ≡ next plan past node
next-all plan past [] node = refl
next-all plan past (key ∷ keys) node = next-all plan (launch_of past key ∷ past) keys node

module _ (limits : Limits) (plan : Plan) (past : List Record) (queues : List Queue) (waiting : AreWaiting plan past queues) (keys : List Key) (taken : List ℕ)
    (are : AreHeadsTaken limits plan past queues keys taken) (class : ℕ) (w : class < classes_of plan) where
  abbrev OfClass : ℕ → Type 0
  OfClass node = (node < count_of plan) × (class_of_next plan past node ≡ class)

  -- what may be started of the class is a member
  has : (node : ℕ) → OfClass node → (key : Key) → startable limits plan (launched past keys) node ≡ Some key → Contains (members_at queues class) (member_of plan node)
  has node is key e =
      subst (λ c. Contains (members_at queues c) (member_of plan node)) is.1 (waiting.ready node is.0 (ready-all plan past keys node (startable-ready limits plan (launched past keys) node key is.0 e)))

  -- that is not taken
  not-taken : (node : ℕ) (is : OfClass node) (key : Key) (e : startable limits plan (launched past keys) node ≡ Some key) → count_at taken class ≤ (has node is key e).0
  not-taken node is key e =
      let own = has node is key e in
      by_lt own.0 (count_at taken class)
      (λ less.
      let bad : None ≡ Some key = sym (are.gone class w own.0 (member_of plan node) less own.1) ∙ ap (λ (m : Member). startable limits plan (launched past keys) m.node) own.2 ∙ e in absurd cc)
      (λ ge. ge)

  pub class-none : length (members_at queues class) ≤ count_at taken class → IsBestOf limits plan (launched past keys) (λ node. (node < count_of plan) × (class_of_next plan past node ≡ class)) None
  class-none short node is = go (startable limits plan (launched past keys) node) refl
    where
      go : (o : Option Key) → startable limits plan (launched past keys) node ≡ o → startable limits plan (launched past keys) node ≡ None
      go None e = e
      go (Some key) e = let own = (has node is key e).1 in let ge = not-taken node is key e in absurd (omega (arith, own, ge, short))

  module _ (own : Member) (inside : count_at taken class < length (members_at queues class)) (at : get_or (members_at queues class) (count_at taken class) own ≡ own) where
    own-has : Contains (members_at queues class) own
    own-has = (count_at taken class, inside, at)

    own-each : (own.node < count_of plan) × (own ≡ member_of plan own.node)
    own-each = let e = (waiting.are.each class w).each own own-has in (e.0, e.1)

    own-of : OfClass own.node
    own-of = (own-each.0, (waiting.only class w own own-has).1)

    -- it comes before the members after it
    before : (node k : ℕ) → count_at taken class < k → k < length (members_at queues class) → get_or (members_at queues class) k (member_of plan node) ≡ member_of plan node → ComesBefore own (member_of plan node)
    before node k lt len e =
        subst (λ m. ComesBefore m (member_of plan node)) (get_or_default (members_at queues class) (count_at taken class) (member_of plan node) own inside ∙ at)
        (subst (ComesBefore (get_or (members_at queues class) (count_at taken class) (member_of plan node))) e ((waiting.are.each class w).ordered (count_at taken class) k (member_of plan node) lt len))

    -- where the first that is not taken may be started, it is the best
    pub class-some : (key : Key) → startable limits plan (launched past keys) own.node ≡ Some key
        → IsBestOf limits plan (launched past keys) (λ node. (node < count_of plan) × (class_of_next plan past node ≡ class)) (Some key)
    class-some key some = (
      ap (startable limits plan (launched past keys)) same ∙ some,
      subst OfClass (sym same) own-of,
      λ node other is e better.
          let its = has node is other e in let ge = not-taken node is other e in
          let over : ComesBefore (member_of plan node) own = subst (ComesBefore (member_of plan node)) (ap (member_of plan) same ∙ sym own-each.1) better in
          by_lt (count_at taken class) its.0
          (λ less. not-itself own (trans own (member_of plan node) own (before node its.0 less its.1 its.2) over))
          (λ le.
          let k : its.0 ≡ count_at taken class = omega (arith, ge, le) in
          not-itself own (subst (λ m. ComesBefore m own)
          (sym its.2 ∙ ap (λ j. get_or (members_at queues class) j (member_of plan node)) k ∙ get_or_default (members_at queues class) (count_at taken class) (member_of plan node) own inside ∙ at) over)),
    )
      where
        same : key.node ≡ own.node
        same = startable-node limits plan (launched past keys) own.node key some

    -- and where it may not, none may
    pub class-held : startable limits plan (launched past keys) own.node ≡ None → IsBestOf limits plan (launched past keys) (λ node. (node < count_of plan) × (class_of_next plan past node ≡ class)) None
    class-held none node is = go (startable limits plan (launched past keys) node) refl
      where
        first : (key : Key) × (next plan past own.node ≡ Some key)
        first = ready-next plan past own.node (waiting.only class w own own-has).0

        first-node : first.0.node ≡ own.node
        first-node = key-node plan past own.node first.0 first.1

        may : launchable plan past own.node ≡ Some first.0
        may = ready-launchable plan past own.node first.0 own-each.0 (waiting.only class w own own-has).0 first.1

        apart : is_among first.0 keys ≡ false
        apart = false_from_ne_true _ (λ t.
            all-among (λ (k : Key). k.node ≡ (get_or (members_at queues class) (count_at taken class) own).node → ⊥) keys (are.left class w (count_at taken class) own (omega arith) inside) first.0 t
            (first-node ∙ ap (λ (m : Member). m.node) (sym at)))

        class-first : class_of first.0.phase (node_at plan own.node).category ≡ class
        class-first = sym (ap (λ (o : Option Key). class_by (next_phase o) (node_at plan own.node).category) first.1) ∙ own-of.1

        -- another phase of the class that is let in
        shut : (key : Key) → launchable plan past node ≡ Some key → lets_in limits plan (outstanding plan (launched past keys)) key ≡ true → ⊥
        shut key l free =
            let its : next plan past node ≡ Some key = (launchable-next plan past node key l).1 in
            let class-its : class_of key.phase (node_at plan node).category ≡ class = sym (ap (λ (o : Option Key). class_by (next_phase o) (node_at plan node).category) its) ∙ is.1 in
            let t = throttled_in limits plan (outstanding plan (launched past keys)) in
            let lets : lets_in limits plan (outstanding plan (launched past keys)) first.0 ≡ true =
            ap (λ n. may_start t first.0.phase (node_at plan n).category) first-node
            ∙ start-same t first.0.phase (node_at plan own.node).category key.phase (node_at plan node).category (class-first ∙ sym class-its)
            ∙ ap (λ n. may_start t key.phase (node_at plan n).category) (sym (key-node plan past node key its)) ∙ free in
            let bad : None ≡ Some first.0 = sym none ∙ behind-held limits plan past keys own.node own-each.0 first.0 may apart true lets in
            cc

        go : (o : Option Key) → startable limits plan (launched past keys) node ≡ o → startable limits plan (launched past keys) node ≡ None
        go None e = e
        go (Some other) e = on (launchable plan past node) refl
          where
            on : (l : Option Key) → launchable plan past node ≡ l → startable limits plan (launched past keys) node ≡ None
            on None l = behind-none limits plan past keys node is.0 l
            on (Some key) l = among (is_among key keys) refl
              where
                among : (b : Bool) → is_among key keys ≡ b → startable limits plan (launched past keys) node ≡ None
                among true a = behind-among limits plan past keys node is.0 key l a
                among false a = lets (lets_in limits plan (outstanding plan (launched past keys)) key) refl
                  where
                    lets : (b : Bool) → lets_in limits plan (outstanding plan (launched past keys)) key ≡ b → startable limits plan (launched past keys) node ≡ None
                    lets true o = absurd (shut key l o)
                    lets false o = behind-held limits plan past keys node is.0 key l a false o

    -- it is the head of its class
    pub own-head : (key : Key) → startable limits plan (launched past keys) own.node ≡ Some key → IsNextHead queues taken (class_of_key plan key) key.node
    own-head key some =
        let same = startable-node limits plan (launched past keys) own.node key some in
        let its : next plan past own.node ≡ Some key =
        sym (next-all plan past keys own.node) ∙ (launchable-next plan (launched past keys) own.node key (startable-parts limits plan (launched past keys) own.node key some).0).1 in
        let is : class_of_key plan key ≡ class =
        ap (λ n. class_of key.phase (node_at plan n).category) same ∙ sym (ap (λ (o : Option Key). class_by (next_phase o) (node_at plan own.node).category) its) ∙ own-of.1 in
        subst (λ c. IsNextHead queues taken c key.node) (sym is) (record {
          within = inside;
          is = λ d. ap (λ (m : Member). m.node) (get_or_default (members_at queues class) (count_at taken class) d own inside ∙ at) ∙ sym same;
        })

    pub class-best : (o : Option Key) → startable limits plan (launched past keys) own.node ≡ o
        → IsBestOf limits plan (launched past keys) (λ node. (node < count_of plan) × (class_of_next plan past node ≡ class)) o
    class-best None e = class-held e
    class-best (Some key) e = class-some key e

    pub class-head : (o : Option Key) → startable limits plan (launched past keys) own.node ≡ o → IfSome o (λ key. IsNextHead queues taken (class_of_key plan key) key.node)
    class-head None e = tt
    class-head (Some key) e = own-head key e

    -- where it is not better than one that may be started, none of the class is
    pub class-later : (best : Key) → startable limits plan (launched past keys) best.node ≡ Some best → (IsBetter plan own.node best.node → ⊥) → (node : ℕ) → OfClass node → (other : Key)
        → startable limits plan (launched past keys) node ≡ Some other → IsBetter plan node best.node → ⊥
    class-later best some later node is other e better =
        let its = has node is other e in let ge = not-taken node is other e in
        let first : own ≡ member_of plan own.node = own-each.1 in
        by_lt (count_at taken class) its.0
        (λ less. later (subst (λ m. ComesBefore m (member_of plan best.node)) first
        (trans own (member_of plan node) (member_of plan best.node) (before node its.0 less its.1 its.2) better)))
        (λ le.
        let k : its.0 ≡ count_at taken class = omega (arith, ge, le) in
        let same : member_of plan node ≡ own =
        sym its.2 ∙ ap (λ j. get_or (members_at queues class) j (member_of plan node)) k ∙ get_or_default (members_at queues class) (count_at taken class) (member_of plan node) own inside ∙ at in
        later (subst (λ m. ComesBefore m (member_of plan best.node)) (same ∙ first) better))

-- where a class is not let in, none of it may be started
pub class-shut : (limits : Limits) (plan : Plan) (past : List Record) (keys : List Key) (t : Throttled) → t ≡ throttled_in limits plan (outstanding plan (launched past keys)) → (class : ℕ)
    → ((phase : Phase) (category : Option ℕ) → class_of phase category ≡ class → may_start t phase category ≡ false)
    → IsBestOf limits plan (launched past keys) (λ node. (node < count_of plan) × (class_of_next plan past node ≡ class)) None
class-shut limits plan past keys t counted class shut node is = go (startable limits plan (launched past keys) node) refl
  where
    go : (o : Option Key) → startable limits plan (launched past keys) node ≡ o → startable limits plan (launched past keys) node ≡ None
    go None e = e
    go (Some key) e =
        let parts = startable-parts limits plan (launched past keys) node key e in
        let its : next plan past node ≡ Some key = sym (next-all plan past keys node) ∙ (launchable-next plan (launched past keys) node key parts.0).1 in
        let own : class_of key.phase (node_at plan node).category ≡ class = sym (ap (λ (o : Option Key). class_by (next_phase o) (node_at plan node).category) its) ∙ is.1 in
        absurd (false≢true (sym (shut key.phase (node_at plan node).category own)
        ∙ ap (λ (u : Throttled). may_start u key.phase (node_at plan node).category) counted
        ∙ ap (λ n. may_start (throttled_in limits plan (outstanding plan (launched past keys))) key.phase (node_at plan n).category) (sym (key-node plan past node key its)) ∙ parts.1))

-- and where none is, none at all
pub all-shut : (limits : Limits) (plan : Plan) (past : List Record) (keys : List Key) (t : Throttled) → t ≡ throttled_in limits plan (outstanding plan (launched past keys))
    → ((phase : Phase) (category : Option ℕ) → may_start t phase category ≡ false) → (node : ℕ) → node < count_of plan → startable limits plan (launched past keys) node ≡ None
all-shut limits plan past keys t counted shut node lt =
    class-shut limits plan past keys t counted (class_of_next plan past node) (λ phase category own. shut phase category) node (lt, refl)

-- whether a class is let in, by one of its phases
pub class-let : (t : Throttled) (class : ℕ) (own : Phase) (its : Option ℕ) → class_of own its ≡ class → (lets : Bool) → lets ≡ may_start t own its
    → (phase : Phase) (category : Option ℕ) → class_of phase category ≡ class → lets ≡ may_start t phase category
class-let t class own its is lets e phase category same = e ∙ start-same t own its phase category (is ∙ sym same)

-- a job that no limit but that of its category may hold
lets-any : (t : Throttled) (category : Option ℕ) → may_start t Job category ≡ true → may_start t Job None ≡ true
lets-any t None h = h
lets-any t (Some place) h = and_from _ _ (and_parts _ _ h).0 refl

pub none-let : (t : Throttled) → may_start t Pre None ≡ false → may_start t Post None ≡ false → may_start t Job None ≡ false → (phase : Phase) (category : Option ℕ) → may_start t phase category ≡ false
none-let t pre post job Pre category = pre
none-let t pre post job Post category = post
none-let t pre post job Job category = false_from_ne_true _ (λ h. false≢true (sym job ∙ lets-any t category h))

-- a class more
pub class-merged : (limits : Limits) (plan : Plan) (past records : List Record) (i : ℕ) (best o : Option Key)
    → IsBestOf limits plan records (λ node. (node < count_of plan) × (class_of_next plan past node < i)) best
    → IsBestOf limits plan records (λ node. (node < count_of plan) × (class_of_next plan past node ≡ i)) o
    → IsBestOf limits plan records (λ node. (node < count_of plan) × (class_of_next plan past node < i + 1)) (better_of plan best o)
class-merged limits plan past records i best o b n =
    merged limits plan records (λ node. (node < count_of plan) × (class_of_next plan past node < i)) (λ node. (node < count_of plan) × (class_of_next plan past node ≡ i))
    (λ node. (node < count_of plan) × (class_of_next plan past node < i + 1)) (λ node is. (is.0, (let l = is.1 in omega (arith, l)))) (λ node is. (is.0, (let l = is.1 in omega (arith, l))))
    (λ node is. by_lt (class_of_next plan past node) i (λ less. inl (is.0, less)) (λ ge. inr (is.0, (let l = is.1 in omega (arith, l, ge))))) best o b n

-- of which none may be started
pub class-nothing : (limits : Limits) (plan : Plan) (past records : List Record) (i : ℕ) (best : Option Key)
    → IsBestOf limits plan records (λ node. (node < count_of plan) × (class_of_next plan past node < i)) best
    → IsBestOf limits plan records (λ node. (node < count_of plan) × (class_of_next plan past node ≡ i)) None
    → IsBestOf limits plan records (λ node. (node < count_of plan) × (class_of_next plan past node < i + 1)) best
class-nothing limits plan past records i None b n = class-merged limits plan past records i None None b n
class-nothing limits plan past records i (Some key) b n = class-merged limits plan past records i (Some key) None b n

-- or of which none is better
pub class-worse : (limits : Limits) (plan : Plan) (past records : List Record) (i : ℕ) (key : Key)
    → IsBestOf limits plan records (λ node. (node < count_of plan) × (class_of_next plan past node < i)) (Some key)
    → ((node : ℕ) → (node < count_of plan) × (class_of_next plan past node ≡ i) → (other : Key) → startable limits plan records node ≡ Some other → IsBetter plan node key.node → ⊥)
    → IsBestOf limits plan records (λ node. (node < count_of plan) × (class_of_next plan past node < i + 1)) (Some key)
class-worse limits plan past records i key b worse = (
  b.0,
  (b.1.0, (let l = b.1.1 in omega (arith, l))),
  λ node other is e better. by_lt (class_of_next plan past node) i (λ less. b.2 node other (is.0, less) e better)
      (λ ge. worse node (is.0, (let l = is.1 in omega (arith, l, ge))) other e better),
)

-- and they are all
pub class-all : (limits : Limits) (plan : Plan) (past : List Record) (queues : List Queue) (keys : List Key) → AreWaiting plan past queues → (n : ℕ) → classes_of plan ≤ n → (best : Option Key)
    → IsBestOf limits plan (launched past keys) (λ node. (node < count_of plan) × (class_of_next plan past node < n)) best → IsBestBelow limits plan (launched past keys) (count_of plan) best
class-all limits plan past queues keys waiting n all best b = go best b
  where
    within : (node : ℕ) → node < count_of plan → (key : Key) → startable limits plan (launched past keys) node ≡ Some key → class_of_next plan past node < n
    within node lt key e =
        let has = waiting.ready node lt (ready-all plan past keys node (startable-ready limits plan (launched past keys) node key lt e)) in
        let inside = has-within queues (class_of_next plan past node) (member_of plan node) has in let m = waiting.are.many in omega (arith, inside, m, all)

    go : (best : Option Key) → IsBestOf limits plan (launched past keys) (λ node. (node < count_of plan) × (class_of_next plan past node < n)) best
        → IsBestBelow limits plan (launched past keys) (count_of plan) best
    go None b = λ node lt. on node lt (startable limits plan (launched past keys) node) refl
      where
        on : (node : ℕ) → node < count_of plan → (o : Option Key) → startable limits plan (launched past keys) node ≡ o → startable limits plan (launched past keys) node ≡ None
        on node lt None e = e
        on node lt (Some key) e = b node (lt, within node lt key e)
    go (Some key) b = (b.0, b.1.0, λ node other lt e better. b.2 node other (lt, within node lt other e) e better)
