-- What a node's run answers, for the phases that led to its state.
use Rattle.std.proofs.Common.{◌≡◌, ℕ, Bool, true, false, not, ◌&&◌, ◌||◌, List, [], ◌∷◌, ◌++◌, Option, Some, None, is_none, refl, sym, ap, ◌∙◌, subst, eq-eqb, if◌then◌else◌}
use Rattle.std.specs.Prelude.{IsSome}
use Rattle.std.proofs.lemmas.Bool.{and_from}
use Rattle.node_machine.proofs.Trees.{got}
use Rattle.node_machine.specs.declared.Phase.{Phase}
use Rattle.node_machine.specs.declared.Outcome.{Outcome}
use Rattle.node_machine.specs.declared.Outcome.TheVariants.{Exit}
use Rattle.node_machine.specs.declared.Ended.{Ended}
use Rattle.node_machine.specs.declared.Course.{Course}
use Rattle.node_machine.specs.declared.MachineState.{MachineState}
use Rattle.node_machine.specs.declared.State.TheVariants.{Done, Error, NotRun}
use Rattle.node_machine.specs.Story.{ends_with, may_end_with, is_noop_job, is_exit_0, is_that_phase, is_history, next_after, is_good_after, value_after, state_after, attempts_ended_after}
use Rattle.node_machine.specs.MachineState.{next_of, attempts_ended, state_by, machine_before, machine_step, machine_after}
use Rattle.node_machine.specs.NodeProgress.{NodeProgress, IsPossible}
use Rattle.node_machine.specs.NodeRun.{IsStateAfter, counted_at, end_at, with_phase_ended}
use Rattle.node_machine.proofs.Standing.{steps-next, steps-good, steps-value, steps-ended}
use Rattle.node_machine.proofs.Paces.{steps-push, step-attempt, may-go_on-push}

state-of : (o : Option Phase) (attempt : ℕ) (good : Bool)
    → (if is_none o then (if good then Done else Error) else NotRun)
    ≡ (if is_none o && good then Done else if is_none o then Error else NotRun)
state-of None attempt true = refl
state-of None attempt false = refl
state-of (Some phase) attempt good = refl

none-of : (machine : MachineState) (o : Option Phase) → is_none (next_of machine o) ≡ is_none o
none-of machine None = refl
none-of machine (Some phase) = refl

-- what the job of a NOOP may end with is Exit 0, and so counts as it is given
pub may-end : (course : Course) (phase : Phase) (outcome : Outcome) → may_end_with course phase (ends_with course phase outcome) ≡ true
may-end course phase outcome = go (is_noop_job course phase)
  where
    go : (b : Bool) → (not b || is_exit_0 (if b then Exit 0 else outcome)) ≡ true
    go true = eq-eqb 0 0 refl
    go false = refl

module _ (run : NodeProgress) (es : List Ended) (s : IsStateAfter run es) where
  pub next-behind : next_of run.machine run.machine.phase ≡ next_after run.course es
  next-behind = (λ j. next_of (s.machine j) (s.machine j).phase) ∙ sym (steps-next run.course es s.history)

  pub value-behind : run.machine.value ≡ value_after run.course es
  value-behind = ap (λ (t : MachineState). t.value) s.machine ∙ sym (steps-value run.course es s.history)

  pub attempts-behind : attempts_ended run.machine ≡ attempts_ended_after run.course es
  attempts-behind = ap attempts_ended s.machine ∙ sym (steps-ended run.course es s.history)

  abbrev there : MachineState
  there = machine_after run.course es

  pub state-behind : state_by run.machine ≡ state_after run.course es
  state-behind =
      ap state_by s.machine ∙ state-of there.phase there.attempt there.good
      ∙ (λ j. if sym (steps-good run.course es s.history) j then Done else if sym (none-of there there.phase) j then Error else NotRun)
      ∙ (λ j. if is_good_after run.course es then Done else if is_none (sym (steps-next run.course es s.history) j) then Error else NotRun)

  -- the phase that comes next ends
  pub end-behind : (phase : Phase) → run.machine.phase ≡ Some phase → (outcome : Outcome) → (new : NodeProgress)
      → new ≡ record { course = run.course; machine = machine_step run.course run.machine (counted_at run.course run.machine.phase outcome); running = false }
      → IsStateAfter new (with_phase_ended run.course es outcome)
  end-behind phase is outcome new e = subst (λ (n : NodeProgress). IsStateAfter n (with_phase_ended run.course es outcome)) (sym e) here
    where
      next : next_after run.course es ≡ Some (run.machine.attempt, phase)
      next = sym next-behind ∙ ap (next_of run.machine) is

      last : Ended
      last = got run.machine.attempt phase (ends_with run.course phase outcome)

      grown : with_phase_ended run.course es outcome ≡ es ++ last ∷ []
      grown = ap (λ o. es ++ end_at run.course o outcome) next

      that : is_that_phase (next_after run.course es) last ≡ true
      that = ap (λ o. is_that_phase o last) next ∙ and_from _ _ (eq-eqb run.machine.attempt run.machine.attempt refl) (eq-eqb _ _ refl)

      here : IsStateAfter (record { course = run.course; machine = machine_step run.course run.machine (counted_at run.course run.machine.phase outcome); running = false }) (with_phase_ended run.course es outcome)
      here = record {
        history = subst (λ t. is_history run.course t ≡ true) (sym grown)
            (may-go_on-push run.course [] es last s.history that (may-end run.course phase outcome));
        machine =
            (λ j. machine_step run.course (s.machine j) (counted_at run.course (is j) outcome))
            ∙ sym (steps-push run.course (machine_before run.course 0 None false) es last)
            ∙ ap (machine_after run.course) (sym grown);
      }

-- what a node that ran is after an ending
pub possible-behind : (run : NodeProgress) (outcome : Outcome) → IsPossible run
    → IsPossible (record { course = run.course; machine = machine_step run.course run.machine (counted_at run.course run.machine.phase outcome); running = false })
possible-behind run outcome p = record {
  allowed = step-attempt run.course run.machine (counted_at run.course run.machine.phase outcome) p.allowed;
  next = λ bad. absurd cc;
}

-- what runs has a next phase
pub some-phase : (o : Option Phase) → IsSome o → (phase : Phase) × (o ≡ Some phase)
some-phase None i = absurd cc
some-phase (Some phase) i = (phase, refl)
