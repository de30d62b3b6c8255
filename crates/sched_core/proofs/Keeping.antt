-- What a core keeps when a record is added.
use Rattle.std.proofs.Common.{◌≡◌, ℕ, zero, suc, ◌+◌, ◌-◌, length, ◌<◌, ◌≤◌, Bool, true, false, not, ◌&&◌, ◌||◌, List, [], ◌∷◌, Option, Some, None, is_none, refl, sym, ap, ◌∙◌, subst, arith, if◌then◌else◌}
use Rattle.std.specs.Prelude.{nat_lt, is_some}
use Rattle.std.proofs.lemmas.Bool.{and_parts, ltb-true, ltb-false, false_from_ne_true, false≢true}
use Rattle.node_machine.specs.NodeProgress.{NodeProgress}
use Rattle.node_machine.specs.declared.Record.{Record}
use Rattle.node_machine.specs.declared.Record.TheVariants.{Life, Launch, End, Finish}
use Rattle.dag_graph.specs.Graph.{children_of}
use Rattle.run_plan.specs.Plan.{Plan, node_at, count_of, all_below}
use Rattle.run_plan.specs.Planned.{IsPlanned}
use Rattle.run_plan.proofs.PlanFacts.{parents-below}
use Rattle.sched_core.specs.declared.states.Looked.{Looked}
use Rattle.sched_core.specs.Bound.{node_total}
use Rattle.sched_core.specs.Core.{Shows}
use Rattle.sched_core.proofs.Failed.{failed_after}
use Rattle.node_machine.proofs.Beginnings.{nil-good}
use Rattle.throttles.specs.Throttled.{Throttled}
use Rattle.throttles.specs.declared.Limits.{Limits}
use Rattle.sched_core.specs.Limits.{throttled_in}
use Rattle.sched_core.specs.Queued.{Classed, IsQueued}
use Rattle.sched_core.specs.Bound.{sum_below}
use Rattle.sched_core.proofs.Moves.{fresh-shown}
use Rattle.sched_core.proofs.Throttling.{fresh-throttled}
use Rattle.sched_core.proofs.Taking.{fresh-noted}
use Rattle.sched_core.specs.Kept.{IsKept, own_place, IsLookedFor}
use Rattle.sched_core.specs.Looks.{stops, most_looks, further_looks}
use Rattle.sched_core.specs.Notes.{AreNotes}
use Rattle.sched_core.specs.Run.{chronological, is_done, is_aborted, has_abort_value, is_over, may_follow}
use Rattle.sched_core.specs.States.{NodeStates, AreNew, AreLeft, IsStateOf, done_at}
use Rattle.sched_core.specs.Turns.{IsLent, IsLentFor, IsOfTurn, has_abort_by, stuck_by}
use Rattle.sched_core.proofs.Alone.{alone}
use Rattle.sched_core.proofs.Held.{launched-within, end-within}
use Rattle.sched_core.proofs.Shown.{machine-done}
use Rattle.sched_core.proofs.Tallies.{ended-undone, ended-going, ended-alone, fresh-tallied}
use Rattle.sched_core.proofs.Undone.{undone-same}

-- a node of the plan, or FINAL, has a place of its own
pub own-place : (plan : Plan) (node : ℕ) → node < suc (count_of plan) → own_place plan node ≡ node
own-place plan node lt = go (nat_lt node (count_of plan)) refl
  where
    go : (b : Bool) → nat_lt node (count_of plan) ≡ b → (if b then node else count_of plan) ≡ node
    go true t = refl
    go false f = let ge = ltb-false node (count_of plan) f in omega (arith, ge, lt)

module _ (plan : Plan) (planned : IsPlanned plan) (past : List Record) (states : NodeStates) (aborted : Bool) (jobs : ℕ) (s : Shows plan past states.runs aborted jobs) where
  done-shown : (p : ℕ) → p < count_of plan → done_at plan states.runs p ≡ is_done plan past p
  done-shown p low = (λ j. (node_at plan p).done || (is_none (s.runs_are p (omega (arith, low)) j).machine.phase && (s.runs_are p (omega (arith, low)) j).machine.good)) ∙ machine-done plan past s.lawful p

  module _ (notes : AreNotes plan past states.notes) (left : AreLeft plan aborted states.runs states.left) where
    lent-at : (node place : ℕ) (looked : Looked) → place ≡ node → node < suc (count_of plan) → (looked.node ≡ place) × IsStateOf plan past place looked.state → IsLent plan aborted states node looked
    lent-at node place looked e w is =
        let state = subst (λ n. IsStateOf plan past n looked.state) e is.1 in
        record {
          place = is.0 ∙ e;
          within = w;
          run = state.run ∙ sym (s.runs_are node w);
          notes = state.notes ∙ sym (notes.each node w);
          left = λ abort_free lt. state.left (sym s.aborted_is ∙ abort_free) lt
              ∙ sym (left.each abort_free node lt ∙ undone-same (done_at plan states.runs) (is_done plan past) (count_of plan) done-shown (node_at plan node).parents (parents-below plan planned node));
        }

    -- the state that was lent for a record is its node's
    pub lent-for : (entry : Record) (looked : Option Looked) → may_follow plan past entry ≡ true → IsLookedFor plan past entry looked → IsLentFor plan aborted states entry looked
    lent-for Life looked may is = tt
    lent-for (Finish status) looked may is = tt
    lent-for (Launch key number) None may is = is
    lent-for (Launch key number) (Some looked) may is =
        let w = launched-within plan past key number may in lent-at key.node (own_place plan key.node) looked (own-place plan key.node w) w is
    lent-for (End key outcome) None may is = is
    lent-for (End key outcome) (Some looked) may is =
        let w = end-within plan past key outcome s.lawful may in lent-at key.node (own_place plan key.node) looked (own-place plan key.node w) w is

  -- and a record finds its node as it must
  pub turn-for : (entry : Record) → may_follow plan past entry ≡ true → IsOfTurn plan aborted states.runs entry
  turn-for Life may = λ none. ap (λ (r : NodeProgress). r.running) (s.runs_are (count_of plan) (omega arith)) ∙ false_from_ne_true _ (λ t. false≢true (sym none ∙ (alone plan past s.lawful).some t))
  turn-for (Launch key number) may = tt
  turn-for (Finish status) may = tt
  turn-for (End key outcome) may = record {
    undone = (λ j. (node_at plan key.node).done || (is_none (s.runs_are key.node w j).machine.phase && (s.runs_are key.node w j).machine.good))
        ∙ machine-done plan past s.lawful key.node ∙ ended-undone plan past s.lawful key outcome may;
    going = λ lt. s.aborted_is ∙ ended-going plan past s.lawful key outcome may lt;
    idle = λ lt. ap (λ (r : NodeProgress). r.running) (s.runs_are (count_of plan) (omega arith)) ∙ ended-alone plan past s.lawful key outcome may lt;
  }
    where
      w : key.node < suc (count_of plan)
      w = end-within plan past key outcome s.lawful may

  -- only a run that goes on is aborted by a record
  abort-going : (runs : List NodeProgress) (entry : Record) → may_follow plan past entry ≡ true → has_abort_by plan runs entry ≡ true → aborted ≡ false
  abort-going runs Life may h = absurd (false≢true h)
  abort-going runs (Launch key number) may h = absurd (false≢true h)
  abort-going runs (Finish status) may h = absurd (false≢true h)
  abort-going runs (End key outcome) may h =
      s.aborted_is ∙ ended-going plan past s.lawful key outcome may (ltb-true key.node (count_of plan) (and_parts _ _ h).0)

  pub abort-told : (runs : List NodeProgress) (entry : Record) (aborts flag : Bool) → may_follow plan past entry ≡ true → aborts ≡ has_abort_by plan runs entry → flag ≡ (aborted || aborts)
      → aborts ≡ (flag && not aborted)
  abort-told runs entry aborts flag may is told = go aborted aborts (λ t. abort-going runs entry may (sym is ∙ t)) ∙ (λ j. sym told j && not aborted)
    where
      go : (a b : Bool) → (b ≡ true → a ≡ false) → b ≡ ((a || b) && not a)
      go true true g = g refl
      go true false g = refl
      go false true g = refl
      go false false g = refl

  pub stops-told : (now : List Record) (runs runs' : List NodeProgress) (jobs' : ℕ) (entry : Record) (aborts flag : Bool) → may_follow plan past entry ≡ true → aborts ≡ has_abort_by plan runs entry
      → flag ≡ (aborted || aborts) → now ≡ entry ∷ past → Shows plan now runs' flag jobs' → aborts ≡ stops plan past entry
  stops-told now runs runs' jobs' entry aborts flag may is told n shown =
      abort-told runs entry aborts flag may is told ∙ (λ j. (shown.aborted_is ∙ ap (is_aborted plan) n) j && not (s.aborted_is j))

pub failed-by : (plan : Plan) (runs : List NodeProgress) (failed : ℕ) (entry : Record) → (if stuck_by plan runs entry then suc failed else failed) ≡ failed_after plan runs failed entry
failed-by plan runs failed Life = refl
failed-by plan runs failed (Launch key number) = refl
failed-by plan runs failed (End key outcome) = refl
failed-by plan runs failed (Finish status) = refl

-- an abort is of some node
aborted-some : (plan : Plan) (past : List Record) → is_aborted plan past ≡ true → 1 ≤ count_of plan
unfolding is_aborted
aborted-some plan past h = go (count_of plan) h
  where
    go : (n : ℕ) → not (all_below (λ node. not (has_abort_value plan past node)) n) ≡ true → 1 ≤ n
    go zero e = absurd (false≢true e)
    go (suc n) e = omega arith

-- with the look at the record's own node the bounds hold
all-within : (plan : Plan) → count_of plan ≤ node_total plan
all-within plan = go (is_some plan.final_node)
  where
    go : (b : Bool) → count_of plan ≤ (if b then suc (count_of plan) else count_of plan)
    go true = omega arith
    go false = omega arith

pub most-one : (plan : Plan) (past : List Record) (entry : Record) → (entry ≡ Life → ⊥)
    → further_looks plan entry (stops plan past entry) + 1 ≤ most_looks plan past entry
most-one plan past Life never = absurd (never refl)
most-one plan past (Launch key number) never = omega arith
most-one plan past (Finish status) never = omega arith
most-one plan past (End key outcome) never = go (stops plan past (End key outcome)) refl
  where
    go : (b : Bool) → stops plan past (End key outcome) ≡ b
        → (if b then count_of plan - 1 else length (children_of plan.graph.dag key.node)) + 1 ≤ (if b then node_total plan else 2 + length (children_of plan.graph.dag key.node))
    go true t = let some = aborted-some plan (End key outcome ∷ past) (and_parts _ _ t).0 in let all = all-within plan in omega (arith, some, all)
    go false f = omega arith

pub least-one : (plan : Plan) (past : List Record) (entry : Record) → (entry ≡ Life → ⊥) → 1 ≤ most_looks plan past entry
least-one plan past entry never = let most = most-one plan past entry never in omega (arith, most)

-- a life follows but after Finish
pub life-follows : (plan : Plan) (past : List Record) (entry : Record) → entry ≡ Life → may_follow plan past entry ≡ not (is_over past)
unfolding may_follow
life-follows plan past entry is = ap (may_follow plan past) is

-- before any record
pub fresh-left : (plan : Plan) → IsPlanned plan → (states : NodeStates) → AreNew plan states → AreLeft plan false states.runs states.left
fresh-left plan planned states new = record {
  many = new.left.many;
  each = λ abort_free node lt. new.left.each node lt
      ∙ undone-same (λ p. (node_at plan p).done) (done_at plan states.runs) (count_of plan)
      (λ p low. sym (done-shown plan planned [] states false 0 (fresh-shown plan states.runs new.runs) p low
      ∙ (λ j. (node_at plan p).done || nil-good (node_at plan p).course j) ∙ or-false (node_at plan p).done))
      (node_at plan node).parents (parents-below plan planned node);
}
  where
    or-false : (b : Bool) → (b || false) ≡ b
    or-false true = refl
    or-false false = refl

pub fresh-kept : (plan : Plan) → IsPlanned plan → (limits : Limits) (records : List Record) (states : NodeStates) (throttles : Throttled) (done : ℕ) (queue : Classed) → records ≡ [] → AreNew plan states
    → throttles ≡ throttled_in limits plan [] → IsQueued plan false states.runs states.left queue → done ≡ sum_below (λ node. if (node_at plan node).done then 1 else 0) (count_of plan)
    → IsKept plan (chronological records) states false 1 0 throttles 0 done queue
fresh-kept plan planned limits records states throttles done queue none new t queued d = record {
  shows = subst (λ (l : List Record). Shows plan (chronological l) states.runs false 0) (sym none) (fresh-shown plan states.runs new.runs);
  throttled = fresh-throttled plan limits records throttles t none;
  noted = fresh-noted plan records states.notes none new.notes;
  tallied = fresh-tallied plan records done none d;
  many = record { runs = new.runs.many; notes = new.notes.many; left = new.left.many };
  left = fresh-left plan planned states new;
  queued = queued;
}
