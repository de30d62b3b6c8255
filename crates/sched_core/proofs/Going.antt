-- A round of ordinary phases: one more is launched, and the member whose it is is taken.
use Rattle.std.proofs.Common.{◌≡◌, ℕ, ◌+◌, ◌<◌, ◌≤◌, List, [], ◌∷◌, ◌++◌, length, length-append, get_or, Some, None, sym, ap, ◌∙◌, subst, arith}
use Rattle.std.specs.List.{All}
use Rattle.std.proofs.lemmas.List.Elements.{All-push, Contains-get_or}
use Rattle.node_machine.specs.declared.Key.{Key}
use Rattle.node_machine.specs.declared.Record.{Record}
use Rattle.throttles.specs.declared.Limits.{Limits}
use Rattle.throttles.specs.Throttled.{Throttled, with_one}
use Rattle.ready_queue.specs.declared.Member.{Member}
use Rattle.ready_queue.specs.Queue.{Queue, ComesBefore}
use Rattle.ready_queue.proofs.Places.{not-itself}
use Rattle.ready_queue.proofs.Edits.{by_lt}
use Rattle.run_plan.specs.Plan.{Plan, node_at, count_of}
use Rattle.run_plan.specs.Planned.{IsPlanned}
use Rattle.sched_core.specs.Run.{outstanding, launch_number}
use Rattle.sched_core.specs.Core.{IsBestBelow}
use Rattle.sched_core.specs.Choices.{startable}
use Rattle.sched_core.specs.Limits.{member_of, throttled_in}
use Rattle.sched_core.specs.Ahead.{launched, AreChosen}
use Rattle.sched_core.specs.Queued.{classes_of, count_at, members_at, share}
use Rattle.sched_core.specs.Heads.{AreWaiting, AreHeadsTaken, IsNextHead, class_of_key, class_of_next}
use Rattle.sched_core.proofs.Shares.{by_same, share-own, share-other}
use Rattle.sched_core.proofs.Members.{members-few}
use Rattle.sched_core.proofs.Best.{best-step, best-start}
use Rattle.sched_core.proofs.Queues.{startable-ready}
use Rattle.sched_core.proofs.Ahead.{launched-more, chosen-more, still-none, not-again, final-waits}

-- a head's place is less than the number of nodes
pub head-few : (plan : Plan) (past : List Record) (queues : List Queue) (taken : List ℕ) (class node : ℕ) → AreWaiting plan past queues → class < classes_of plan → IsNextHead queues taken class node
    → count_at taken class + 1 ≤ count_of plan
head-few plan past queues taken class node waiting w head =
    let few = members-few plan class _ (waiting.are.each class w) in let lt = head.within in omega (arith, few, lt)

-- a round that is under way, with the throttles that count it
pub record IsGoing (limits : Limits) (plan : Plan) (past : List Record) (queues : List Queue) (max : ℕ) (keys : List Key) (taken : List ℕ) (throttled : Throttled) : Type 0 where
  pub ordinary : All (λ (key : Key). key.node < count_of plan) keys
  pub chosen : AreChosen limits plan past keys
  pub few : length keys ≤ max
  pub counted : throttled ≡ throttled_in limits plan (outstanding plan (launched past keys))
  pub heads : AreHeadsTaken limits plan past queues keys taken
  pub long : length taken ≡ classes_of plan

-- before any is launched nothing is taken
pub taken-none : (limits : Limits) (plan : Plan) (past : List Record) (queues : List Queue) (taken : List ℕ) → ((class : ℕ) → count_at taken class ≡ 0) → AreHeadsTaken limits plan past queues [] taken
taken-none limits plan past queues taken none = record {
  gone = λ class w k d lt len. let e = none class in absurd (omega (arith, lt, e));
  left = λ class w k d ge len. λ i d lt. absurd (omega (arith, lt));
}

module _ (limits : Limits) (plan : Plan) (planned : IsPlanned plan) (past : List Record) (queues : List Queue) (waiting : AreWaiting plan past queues) (keys : List Key) (taken more : List ℕ)
    (are : AreHeadsTaken limits plan past queues keys taken) (key : Key) (some : startable limits plan (launched past keys) key.node ≡ Some key) (ordinary : key.node < count_of plan)
    (w : class_of_key plan key < classes_of plan) (head : IsNextHead queues taken (class_of_key plan key) key.node)
    (one : (class : ℕ) → count_at more class ≡ count_at taken class + share (class_of_key plan key) class) where
  stays : (node : ℕ) → node < count_of plan → startable limits plan (launched past keys) node ≡ None → startable limits plan (launched past (keys ++ key ∷ [])) node ≡ None
  stays node lt none =
      subst (λ (p : List Record). startable limits plan p node ≡ None) (sym (launched-more past keys key))
      (still-none limits plan planned (launched past keys) key (launch_number (launched past keys) key) node lt none)

  again : startable limits plan (launched past (keys ++ key ∷ [])) key.node ≡ None
  again =
      subst (λ (p : List Record). startable limits plan p key.node ≡ None) (sym (launched-more past keys key))
      (not-again limits plan planned (launched past keys) key (launch_number (launched past keys) key) ordinary some)

  -- a member at a place
  abbrev at : ℕ → ℕ → Member → Member
  at class k d = get_or (members_at queues class) k d

  low : (class : ℕ) → class < classes_of plan → (k : ℕ) (d : Member) → k < length (members_at queues class) → (at class k d).node < count_of plan
  low class c k d len = ((waiting.are.each class c).each (at class k d) (Contains-get_or (members_at queues class) k d len)).0

  -- the others of its class are of other nodes
  class-apart : (k : ℕ) (d : Member) → count_at taken (class_of_key plan key) < k → k < length (members_at queues (class_of_key plan key)) → key.node ≡ (at (class_of_key plan key) k d).node → ⊥
  class-apart k d lt len e =
      let class = class_of_key plan key in
      let i = count_at taken class in
      let each = (waiting.are.each class w).each in
      let first : at class i d ≡ member_of plan (at class i d).node = (each (at class i d) (Contains-get_or (members_at queues class) i d head.within)).1 in
      let its : at class k d ≡ member_of plan (at class k d).node = (each (at class k d) (Contains-get_or (members_at queues class) k d len)).1 in
      let same : at class i d ≡ at class k d = first ∙ ap (member_of plan) (head.is d ∙ e) ∙ sym its in
      not-itself (at class k d) (subst (λ m. ComesBefore m (at class k d)) same ((waiting.are.each class w).ordered i k d lt len))

  next-class : (class : ℕ) → class < classes_of plan → (k : ℕ) (d : Member) → k < length (members_at queues class) → class_of_next plan past (at class k d).node ≡ class
  next-class class c k d len = (waiting.only class c (at class k d) (Contains-get_or (members_at queues class) k d len)).1

  -- and those of other classes too
  other-apart : (class : ℕ) → class < classes_of plan → (class_of_key plan key ≡ class → ⊥) → (k : ℕ) (d : Member) → k < length (members_at queues class) → key.node ≡ (at class k d).node → ⊥
  other-apart class c ne k d len e =
      ne (sym (next-class (class_of_key plan key) w (count_at taken (class_of_key plan key)) d head.within)
      ∙ ap (class_of_next plan past) (head.is d ∙ e) ∙ next-class class c k d len)

  pub taken-more : AreHeadsTaken limits plan past queues (keys ++ key ∷ []) more
  taken-more = record {
    gone = λ class c k d lt len. by_lt k (count_at taken class)
        (λ less. stays (at class k d).node (low class c k d len) (are.gone class c k d less len))
        (λ ge. by_same (class_of_key plan key) class
        (λ same.
        let own = share-own class in
        let is = one class in
        let e : count_at more class ≡ count_at taken class + 1 = is ∙ (λ j. count_at taken class + share (same j) class) ∙ ap (λ n. count_at taken class + n) own in
        let place : k ≡ count_at taken class = omega (arith, lt, ge, e) in
        let node : (at class k d).node ≡ key.node =
        ap (λ n. (at class n d).node) place ∙ subst (λ n. (at n (count_at taken n) d).node ≡ key.node) same (head.is d) in
        ap (startable limits plan (launched past (keys ++ key ∷ []))) node ∙ again)
        (λ ne. let is = one class in let none = share-other (class_of_key plan key) class ne in absurd (omega (arith, lt, ge, is, none))));
    left = λ class c k d ge len. All-push (λ (other : Key). other.node ≡ (at class k d).node → ⊥) keys key
        (are.left class c k d (let is = one class in omega (arith, ge, is)) len)
        (by_same (class_of_key plan key) class
        (λ same.
        let own = share-own class in
        let is = one class in
        let e : count_at more class ≡ count_at taken class + 1 = is ∙ (λ j. count_at taken class + share (same j) class) ∙ ap (λ n. count_at taken class + n) own in
        subst (λ n. count_at taken n < k → k < length (members_at queues n) → key.node ≡ (at n k d).node → ⊥) same (class-apart k d) (omega (arith, ge, e)) len)
        (λ ne. other-apart class c ne k d len));
  }

  pub goes-on : (max : ℕ) (throttled : Throttled) → IsGoing limits plan past queues max keys taken throttled → IsBestBelow limits plan (launched past keys) (count_of plan) (Some key) → length keys < max → length more ≡ length taken
      → IsGoing limits plan past queues max (keys ++ key ∷ []) more (record throttled { running = with_one throttled.running key.phase (node_at plan key.node).category })
  goes-on max throttled going best room long = record {
    ordinary = All-push (λ (k : Key). k.node < count_of plan) keys key going.ordinary ordinary;
    chosen = chosen-more limits plan past keys key going.chosen
        (best-start limits plan (launched past keys) key
        (best-step limits plan (launched past keys) (count_of plan) (Some key) None best
        (final-waits limits plan (launched past keys) key.node ordinary (startable-ready limits plan (launched past keys) key.node key ordinary some))));
    few = omega (arith, length-append keys (key ∷ []), room);
    counted =
        ap (λ (t : Throttled). record t { running = with_one t.running key.phase (node_at plan key.node).category }) going.counted
        ∙ ap (λ (p : List Record). throttled_in limits plan (outstanding plan p)) (sym (launched-more past keys key));
    heads = taken-more;
    long = long ∙ going.long;
  }
