-- The outcome of a phase, looked up in the records.
use Rattle.std.proofs.Common.{◌≡◌, ℕ, ◌≤◌, Bool, true, false, ◌&&◌, List, [], ◌∷◌, ◌++◌, ◌==◌, Option, Some, None, is_none, unwrap_or, refl, sym, ap, ◌∙◌, arith, if◌then◌else◌}
use Rattle.node_machine.specs.declared.Phase.{Phase}
use Rattle.node_machine.specs.declared.Outcome.{Outcome}
use Rattle.node_machine.specs.declared.Outcome.TheVariants.{Exit}
use Rattle.node_machine.specs.declared.Ended.{Ended}
use Rattle.node_machine.specs.declared.Key.{Key}
use Rattle.node_machine.specs.Story.{is_phase, outcome_in, phase_number}
use Rattle.node_machine.proofs.Trees.{got}
use Rattle.run_plan.specs.Plan.{Plan, count_of}
use Rattle.node_machine.specs.declared.Record.{Record}
use Rattle.node_machine.specs.declared.Record.TheVariants.{Life, Launch, End, Finish}
use Rattle.sched_core.specs.Run.{history, outstanding, is_among, is_lawful}
use Rattle.sched_core.specs.Notes.{first_ended}
use Rattle.sched_core.proofs.Keys.{each_among}
use Rattle.sched_core.proofs.Held.{Within, outstanding-within}

-- the outcome of the first of these that is a phase's
found_in : List Ended → ℕ → Phase → Option Outcome
found_in [] i phase = None
found_in (e ∷ es) i phase = if is_phase e i phase then Some e.outcome else found_in es i phase

found-outcome : (es : List Ended) (i : ℕ) (phase : Phase) → unwrap_or (found_in es i phase) (Exit 0) ≡ outcome_in es i phase
unfolding found_in
found-outcome [] i phase = refl
found-outcome (e ∷ es) i phase = go (is_phase e i phase) (found-outcome es i phase)
  where
    go : (b : Bool) → unwrap_or (found_in es i phase) (Exit 0) ≡ outcome_in es i phase
        → unwrap_or (if b then Some e.outcome else found_in es i phase) (Exit 0) ≡ (if b then e.outcome else outcome_in es i phase)
    go true h = refl
    go false h = h

found-push : (es : List Ended) (e : Ended) (i : ℕ) (phase : Phase)
    → found_in (es ++ e ∷ []) i phase ≡ (if is_none (found_in es i phase) then (if is_phase e i phase then Some e.outcome else None) else found_in es i phase)
unfolding found_in
found-push [] e i phase = refl
found-push (e' ∷ es) e i phase = go (is_phase e' i phase) (found-push es e i phase)
  where
    last : Option Outcome
    last = if is_phase e i phase then Some e.outcome else None

    go : (b : Bool) → found_in (es ++ e ∷ []) i phase ≡ (if is_none (found_in es i phase) then last else found_in es i phase)
        → (if b then Some e'.outcome else found_in (es ++ e ∷ []) i phase)
        ≡ (if is_none (if b then Some e'.outcome else found_in es i phase) then last else (if b then Some e'.outcome else found_in es i phase))
    go true h = refl
    go false h = h

pub keep : (o : Option Outcome) → o ≡ (if is_none o then None else o)
keep None = refl
keep (Some x) = refl

first-found : (past : List Record) (key : Key) → first_ended past key ≡ found_in (history past key.node) key.attempt key.phase
unfolding found_in
first-found [] key = refl
first-found (Life ∷ past) key = sym (keep (first_ended past key)) ∙ first-found past key
first-found (Launch other number ∷ past) key = sym (keep (first_ended past key)) ∙ first-found past key
first-found (Finish status ∷ past) key = sym (keep (first_ended past key)) ∙ first-found past key
first-found (End other outcome ∷ past) key = go (other.node == key.node) (first-found past key)
  where
    at : Bool
    at = (other.attempt == key.attempt) && (phase_number other.phase == phase_number key.phase)

    go : (b : Bool) → first_ended past key ≡ found_in (history past key.node) key.attempt key.phase
        → (if is_none (first_ended past key) then (if b && (other.attempt == key.attempt) && (phase_number other.phase == phase_number key.phase) then Some outcome else None) else first_ended past key)
        ≡ found_in (if b then history past key.node ++ got other.attempt other.phase outcome ∷ [] else history past key.node) key.attempt key.phase
    go true h =
        (λ j. if is_none (h j) then (if (other.attempt == key.attempt) && (phase_number other.phase == phase_number key.phase) then Some outcome else None) else h j)
        ∙ sym (found-push (history past key.node) (got other.attempt other.phase outcome) key.attempt key.phase)
    go false h = sym (keep (first_ended past key)) ∙ h

-- so the outcome of a phase is the one that the first record says
pub first-outcome : (past : List Record) (key : Key) (answer : Option Outcome) → answer ≡ first_ended past key
    → unwrap_or answer (Exit 0) ≡ outcome_in (history past key.node) key.attempt key.phase
first-outcome past key answer is =
    ap (λ o. unwrap_or o (Exit 0)) (is ∙ first-found past key) ∙ found-outcome (history past key.node) key.attempt key.phase

-- what is outstanding is of a node of the plan
pub among-within : (plan : Plan) (past : List Record) (key : Key) → is_lawful plan past ≡ true → is_among key (outstanding plan past) ≡ true → key.node ≤ count_of plan
among-within plan past key lawful among =
    let w : Within plan key = each_among (Within plan) key (outstanding plan past) (outstanding-within plan past lawful) among in
    omega arith
