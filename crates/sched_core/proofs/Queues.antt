-- The nodes that may start, as a core keeps them, are those that are ready.
use Rattle.std.proofs.Common.{◌≡◌, ℕ, zero, suc, ◌<◌, Bool, true, false, not, ◌&&◌, ◌||◌, ◌==◌, List, [], ◌∷◌, length, Option, Some, None, is_none, refl, sym, ap, ◌∙◌, subst, arith, eq-eqb, lt-ltb, if◌then◌else◌}
use Rattle.std.specs.Prelude.{nat_lt, nat_le}
use Rattle.std.specs.List.{Contains, list_all}
use Rattle.std.proofs.lemmas.Bool.{ltb-true, leb-true, false≢true, false_from_ne_true}
use Rattle.node_machine.specs.declared.Key.{Key}
use Rattle.node_machine.specs.declared.Phase.{Phase}
use Rattle.node_machine.specs.declared.MachineState.{MachineState}
use Rattle.node_machine.specs.MachineState.{next_of}
use Rattle.ready_queue.specs.declared.Member.{Member}
use Rattle.throttles.specs.declared.Limits.{Limits}
use Rattle.run_plan.specs.Plan.{Plan, node_at, count_of, all_below}
use Rattle.run_plan.specs.Planned.{IsPlanned}
use Rattle.run_plan.proofs.PlanFacts.{parents-below}
use Rattle.node_machine.specs.declared.Record.{Record}
use Rattle.sched_core.specs.Run.{history, key_at, next, is_done, outstanding, is_among, is_free, is_nothing, is_aborted, is_ready, is_final_ready, may_launch, is_lawful}
use Rattle.sched_core.specs.Core.{Shows, node_progress, run_at, is_running}
use Rattle.sched_core.specs.Choices.{launchable, startable}
use Rattle.sched_core.specs.Limits.{member_of}
use Rattle.sched_core.specs.Notes.{AreNotes, notes_at}
use Rattle.sched_core.specs.States.{NodeStates, AreLeft, IsStateAt, IsStateOf, left_at, done_at, undone_in, is_ready_by, is_ready_at}
use Rattle.sched_core.specs.declared.states.NodeState.{NodeState}
use Rattle.ready_queue.specs.Queue.{Queue}
use Rattle.node_machine.specs.NodeProgress.{NodeProgress}
use Rattle.node_machine.specs.MachineState.{machine_after}
use Rattle.sched_core.specs.Queued.{Classed, IsQueued, class_at, class_by, classes_of, members_at}
use Rattle.sched_core.specs.Heads.{AreWaiting, class_of_next, next_phase}
use Rattle.sched_core.proofs.Finished.{all_below-at}
use Rattle.sched_core.proofs.Settling.{has-within}
use Rattle.sched_core.proofs.Keys.{same-self, Each}
use Rattle.sched_core.proofs.Sweeps.{all_below-from, all_below-same}
use Rattle.sched_core.proofs.Held.{Within, outstanding-within}
use Rattle.sched_core.proofs.Best.{startable-parts}
use Rattle.sched_core.proofs.Sound.{Held, sound}
use Rattle.sched_core.proofs.Shown.{machine-next, machine-done, next-phase}
use Rattle.sched_core.proofs.Moves.{launchable-next, ready-next}
use Rattle.sched_core.proofs.Leaf.{free-shown, key-node}
use Rattle.sched_core.proofs.Undone.{none-left, undone-same}

-- a state as the records have it
pub state-shown : (plan : Plan) → IsPlanned plan → (past : List Record) (states : NodeStates) (aborted : Bool) (jobs : ℕ) → Shows plan past states.runs aborted jobs
    → AreNotes plan past states.notes → AreLeft plan aborted states.runs states.left → (node : ℕ) (state : NodeState) → node < suc (count_of plan) → IsStateAt states node state
    → IsStateOf plan past node state
state-shown plan planned past states aborted jobs s notes left node state w at = record {
  run = at.run ∙ s.runs_are node w;
  notes = at.notes ∙ notes.each node w;
  left = λ abort_free lt. at.left ∙ left.each (s.aborted_is ∙ abort_free) node lt
      ∙ undone-same (done_at plan states.runs) (is_done plan past) (count_of plan)
      (λ p low. (λ j. (node_at plan p).done || (is_none (s.runs_are p (omega (arith, low)) j).machine.phase && (s.runs_are p (omega (arith, low)) j).machine.good)) ∙ machine-done plan past s.lawful p)
      (node_at plan node).parents (parents-below plan planned node);
}

-- whether an ordinary node is ready is read from its state
none-key : (node : ℕ) (machine : MachineState) (o : Option Phase) → is_none (key_at node (next_of machine o)) ≡ is_none o
none-key node machine None = refl
none-key node machine (Some phase) = refl

free-by : (plan : Plan) (past : List Record) → is_lawful plan past ≡ true → (node : ℕ)
    → (not (node_at plan node).done && (not (is_none (node_progress plan past node).machine.phase) && not (is_running plan past node))) ≡ is_free plan past (next plan past node)
free-by plan past lawful node = go (next plan past node) refl
  where
    machine : MachineState
    machine = (node_progress plan past node).machine

    none-is : (not (node_at plan node).done && not (is_none machine.phase)) ≡ not (is_none (next plan past node))
    none-is = cases (node_at plan node).done ∙ ap (λ (o : Option Key). not (is_none o)) (machine-next plan past lawful node)
      where
        cases : (d : Bool) → (not d && not (is_none machine.phase)) ≡ not (is_none (if d then None else key_at node (next_of machine machine.phase)))
        cases true = refl
        cases false = ap not (sym (none-key node machine machine.phase))

    assoc : (a b c : Bool) → (a && (b && c)) ≡ ((a && b) && c)
    assoc true b c = refl
    assoc false b c = refl

    go : (o : Option Key) → next plan past node ≡ o
        → (not (node_at plan node).done && (not (is_none machine.phase) && not (is_running plan past node))) ≡ is_free plan past (next plan past node)
    go None e =
        assoc (not (node_at plan node).done) (not (is_none machine.phase)) (not (is_running plan past node))
        ∙ (λ j. (none-is ∙ ap (λ (o : Option Key). not (is_none o)) e) j && not (is_running plan past node))
        ∙ ap (is_free plan past) (sym e)
    go (Some key) e =
        assoc (not (node_at plan node).done) (not (is_none machine.phase)) (not (is_running plan past node))
        ∙ (λ j. (none-is ∙ ap (λ (o : Option Key). not (is_none o)) e) j && not (is_running plan past node))
        ∙ sym (free-shown plan past lawful node key e)

pub ready-shown : (plan : Plan) (past : List Record) → is_lawful plan past ≡ true → (node : ℕ) → node < count_of plan → (state : NodeState) → IsStateOf plan past node state
    → (aborted : Bool) → aborted ≡ is_aborted plan past → is_ready_by (node_at plan node).done aborted state.run state.parents_left ≡ is_ready plan past node
unfolding is_ready
ready-shown plan past lawful node lt state is aborted flag =
    (λ j. is_ready_by (node_at plan node).done (flag j) (is.run j) state.parents_left)
    ∙ go (is_aborted plan past) refl
  where
    rest : Bool
    rest = not (node_at plan node).done && (not (is_none (node_progress plan past node).machine.phase) && not (is_running plan past node))

    go : (a : Bool) → is_aborted plan past ≡ a
        → (not (is_aborted plan past) && ((state.parents_left == 0) && rest)) ≡ (not (is_aborted plan past) && list_all (is_done plan past) (node_at plan node).parents && is_free plan past (next plan past node))
    go true e = (λ j. not (e j) && ((state.parents_left == 0) && rest)) ∙ (λ j. not (sym e j) && list_all (is_done plan past) (node_at plan node).parents && is_free plan past (next plan past node))
    go false e =
        (λ j. not (e j) && (((is.left e lt ∙ λ i. undone_in (is_done plan past) (node_at plan node).parents) j == 0) && rest))
        ∙ (λ j. none-left (is_done plan past) (node_at plan node).parents j && free-by plan past lawful node j)
        ∙ (λ j. not (sym e j) && list_all (is_done plan past) (node_at plan node).parents && is_free plan past (next plan past node))

-- an ordinary node is ready just where its state says so
pub ready-at : (plan : Plan) → IsPlanned plan → (past : List Record) (states : NodeStates) (aborted : Bool) (jobs : ℕ) → Shows plan past states.runs aborted jobs
    → AreNotes plan past states.notes → AreLeft plan aborted states.runs states.left → (node : ℕ) → node < count_of plan
    → is_ready_at plan aborted states.runs states.left node ≡ is_ready plan past node
ready-at plan planned past states aborted jobs s notes left node lt =
    let state : NodeState = record { run = run_at states.runs node; notes = notes_at states.notes node; parents_left = left_at states.left node } in
    ready-shown plan past s.lawful node lt state
    (state-shown plan planned past states aborted jobs s notes left node state (omega (arith, lt)) (record { run = refl; notes = refl; left = refl })) aborted s.aborted_is

module _ (plan : Plan) (planned : IsPlanned plan) (past : List Record) (states : NodeStates) (aborted : Bool) (jobs : ℕ) (s : Shows plan past states.runs aborted jobs)
    (notes : AreNotes plan past states.notes) (left : AreLeft plan aborted states.runs states.left) where
  -- a ready node's class is that of its next phase
  class-same : (node : ℕ) → node < count_of plan → is_ready plan past node ≡ true → class_at plan states.runs node ≡ class_of_next plan past node
  class-same node lt ready =
      let key = ready-next plan past node ready in
      let own : key.0.node ≡ node = key-node plan past node key.0 key.1 in
      let phase : (run_at states.runs node).machine.phase ≡ Some key.0.phase =
      ap (λ (r : NodeProgress). r.machine.phase) (s.runs_are node (omega (arith, lt)))
      ∙ subst (λ n. (machine_after (node_at plan n).course (history past n)).phase ≡ Some key.0.phase) own
      (next-phase plan past s.lawful key.0 (subst (λ n. next plan past n ≡ Some key.0) (sym own) key.1)) in
      ap (λ (o : Option Phase). class_by o (node_at plan node).category) phase
      ∙ ap (λ (o : Option Key). class_by (next_phase o) (node_at plan node).category) (sym key.1)

  -- the members of a core's queues
  pub waiting-are : (classed : Classed) → IsQueued plan aborted states.runs states.left classed → AreWaiting plan past classed.queues
  waiting-are classed queued = record {
    are = queued.are;
    ready = λ node lt r. subst (λ c. Contains (members_at classed.queues c) (member_of plan node)) (class-same node lt r) (queued.ready node lt (at node lt ∙ r));
    only = λ class w member has.
        let own = (queued.are.each class w).each member has in
        let here = queued.only class w member.node own.0 (subst (Contains (members_at classed.queues class)) own.1 has) in
        let r : is_ready plan past member.node ≡ true = sym (at member.node own.0) ∙ here.0 in
        (r, sym (class-same member.node own.0 r) ∙ here.1);
  }
    where
      at : (node : ℕ) → node < count_of plan → is_ready_at plan aborted states.runs states.left node ≡ is_ready plan past node
      at = ready-at plan planned past states aborted jobs s notes left

-- none is ready just where there are no members
pub none-ready : (plan : Plan) (past : List Record) (queues : List Queue) → AreWaiting plan past queues → (empty : Bool)
    → (empty ≡ true → (class : ℕ) → class < length queues → members_at queues class ≡ []) → (((class : ℕ) → class < length queues → members_at queues class ≡ []) → empty ≡ true)
    → empty ≡ all_below (λ node. not (is_ready plan past node)) (count_of plan)
none-ready plan past queues are empty none back = go (all_below (λ node. not (is_ready plan past node)) (count_of plan)) refl
  where
    here : (node : ℕ) → node < count_of plan → is_ready plan past node ≡ true → ((class : ℕ) → class < length queues → members_at queues class ≡ []) → ⊥
    here node lt r all =
        let has = are.ready node lt r in
        let bad = (subst (λ ms. Contains ms (member_of plan node)) (all (class_of_next plan past node) (has-within queues (class_of_next plan past node) (member_of plan node) has)) has).1 in
        omega (arith, bad)

    head : (queues : List Queue) (class : ℕ) (ms : List Member) → members_at queues class ≡ ms → ((member : Member) → Contains (members_at queues class) member → ⊥) → ms ≡ []
    head queues class [] e nothing = refl
    head queues class (m ∷ ms) e nothing = absurd (nothing m (subst (λ (l : List Member). Contains l m) (sym e) (zero, omega arith, refl)))

    go : (b : Bool) → all_below (λ node. not (is_ready plan past node)) (count_of plan) ≡ b → empty ≡ b
    go true e = back (λ class w. head queues class (members_at queues class) refl (λ member has.
        let inside : class < classes_of plan = (let m = are.are.many in omega (arith, w, m)) in
        let own = (are.are.each class inside).each member has in
        false≢true (sym (ap not (are.only class inside member has).0) ∙ all_below-at (λ node. not (is_ready plan past node)) (count_of plan) e member.node own.0)))
    go false e = false_from_ne_true empty (λ t. false≢true (sym e ∙ all_below-from (λ node. not (is_ready plan past node)) (count_of plan)
        (λ node lt. ap not (false_from_ne_true _ (λ r. here node lt r (none t))))))

-- what may be launched of an ordinary node is ready
pub launchable-ready : (plan : Plan) (past : List Record) (node : ℕ) (key : Key) → node < count_of plan → launchable plan past node ≡ Some key → is_ready plan past node ≡ true
unfolding may_launch
launchable-ready plan past node key lt e =
    let may = (launchable-next plan past node key e).0 in
    (λ j. if sym (lt-ltb node (count_of plan) lt) j then is_ready plan past node else (node == count_of plan) && is_final_ready plan past) ∙ may

-- and what is ready may be launched
pub ready-launchable : (plan : Plan) (past : List Record) (node : ℕ) (key : Key) → node < count_of plan → is_ready plan past node ≡ true → next plan past node ≡ Some key → launchable plan past node ≡ Some key
unfolding may_launch
ready-launchable plan past node key lt ready is =
    (λ j. if ((λ i. if lt-ltb node (count_of plan) lt i then is_ready plan past node else (node == count_of plan) && is_final_ready plan past) ∙ ready) j then next plan past node else None) ∙ is

pub startable-ready : (limits : Limits) (plan : Plan) (past : List Record) (node : ℕ) (key : Key) → node < count_of plan → startable limits plan past node ≡ Some key → is_ready plan past node ≡ true
startable-ready limits plan past node key lt e = launchable-ready plan past node key lt (startable-parts limits plan past node key e).0

-- where FINAL's next phase is free, whatever is outstanding is an ordinary node's
pub free-final : (plan : Plan) (past : List Record) → is_lawful plan past ≡ true → is_free plan past (next plan past (count_of plan)) ≡ true
    → is_nothing (outstanding plan past) ≡ list_all (λ (key : Key). nat_le (count_of plan) key.node) (outstanding plan past)
free-final plan past lawful free = go (outstanding plan past) refl (outstanding-within plan past lawful) (sound plan past lawful).held
  where
    go : (keys : List Key) → outstanding plan past ≡ keys → Each (Within plan) keys → Each (Held plan past) keys → is_nothing keys ≡ list_all (λ (key : Key). nat_le (count_of plan) key.node) keys
    go [] e w h = refl
    go (key ∷ keys) e w h = sym (λ j. ordinary j && list_all (λ (k : Key). nat_le (count_of plan) k.node) keys)
      where
        ordinary : nat_le (count_of plan) key.node ≡ false
        ordinary = false_from_ne_true _ (λ t.
            let at : key.node ≡ count_of plan = (let le = leb-true (count_of plan) key.node t in let lt = w.0 in omega (arith, le, lt)) in
            let is : next plan past (count_of plan) ≡ Some key = ap (next plan past) (sym at) ∙ h.0.is_next in
            let among : is_among key (outstanding plan past) ≡ true = ap (is_among key) e ∙ (λ j. same-self key j || is_among key keys) in
            false≢true (sym (ap not among) ∙ ap (is_free plan past) (sym is) ∙ free))

-- nothing may be launched just where FINAL's next phase may not, and no ordinary node is ready
pub nothing-launchable : (plan : Plan) (past : List Record) → (not (is_final_ready plan past) && all_below (λ node. not (is_ready plan past node)) (count_of plan))
    ≡ all_below (λ node. not (may_launch plan past node)) (suc (count_of plan))
unfolding may_launch
nothing-launchable plan past =
    λ j. not (final j) && all_below-same (λ node. not (is_ready plan past node)) (λ node. not (may_launch plan past node)) (count_of plan)
    (λ node lt. λ i. not (if sym (lt-ltb node (count_of plan) lt) i then is_ready plan past node else (node == count_of plan) && is_final_ready plan past)) j
  where
    final : is_final_ready plan past ≡ (if nat_lt (count_of plan) (count_of plan) then is_ready plan past (count_of plan) else (count_of plan == count_of plan) && is_final_ready plan past)
    final =
        (λ j. sym (eq-eqb (count_of plan) (count_of plan) refl) j && is_final_ready plan past)
        ∙ (λ j. if sym (false_from_ne_true (nat_lt (count_of plan) (count_of plan)) (λ t. let l = ltb-true (count_of plan) (count_of plan) t in omega (arith, l))) j
        then is_ready plan past (count_of plan) else (count_of plan == count_of plan) && is_final_ready plan past)
