-- A node's story, played phase by phase at the outcomes of a table.
use Rattle.std.proofs.Common.{◌≡◌, ℕ, ◌<◌, ◌≤◌, false, List, [], ◌∷◌, ◌++◌, Option, Some, None, is_none, unwrap_or, refl, sym, ap, ◌∙◌, subst, if◌then◌else◌}
use Rattle.node_machine.specs.declared.Phase.{Phase}
use Rattle.node_machine.specs.declared.Outcome.{Outcome}
use Rattle.node_machine.specs.declared.Ended.{Ended}
use Rattle.node_machine.specs.declared.Course.{Course}
use Rattle.node_machine.specs.declared.MachineState.{MachineState}
use Rattle.node_machine.specs.declared.State.TheVariants.{Done, Error, NotRun}
use Rattle.node_machine.specs.Story.{story, ends_with, next_after, is_good_after}
use Rattle.node_machine.specs.MachineState.{next_of, attempts_ended, state_by, machine_before}
use Rattle.node_machine.specs.NodeProgress.{NodeProgress}
use Rattle.node_machine.specs.NodeRun.{IsStateAfter, ended_with, end_at, counted_at}
use Rattle.node_machine.proofs.Trees.{Told, Told-push}
use Rattle.node_machine.proofs.Paces.{machine-attempt}
use Rattle.node_machine.proofs.Beginnings.{Fits, masked, fits-nil, history-fits, whole-good, whole-phases, whole-count, whole-value}
use Rattle.node_machine.proofs.Behind.{next-behind, value-behind, attempts-behind, state-behind, end-behind}
use Rattle.sched_core.specs.Fate.{fate_by_story}
use Rattle.sched_core.proofs.Bounds.{left, HasPre, pre-after, step-left}

-- these phases have ended, as the table says, and nothing runs
pub record IsPlayed (column : ℕ → Phase → Outcome) (run : NodeProgress) (es : List Ended) : Type 0 where
  pub idle : run.running ≡ false
  pub stands : IsStateAfter run es
  pub told : Told (masked run.course column) es

-- what stands in for a phase that comes next
phase-from : (machine : MachineState) (o : Option Phase) (attempt : ℕ) (phase : Phase) → next_of machine o ≡ Some (attempt, phase) → (machine.attempt ≡ attempt) × (o ≡ Some phase)
phase-from machine None attempt phase e = absurd cc
phase-from machine (Some p) attempt phase e =
    (ap (λ (o : Option (ℕ × Phase)). (unwrap_or o (attempt, phase)).0) e, ap (λ (o : Option (ℕ × Phase)). Some (unwrap_or o (attempt, phase)).1) e)

-- an ending of a phase
abbrev got-at : Course → ℕ → Phase → Outcome → Ended
got-at course attempt phase outcome = record { attempt = attempt; phase = phase; outcome = ends_with course phase outcome }

pub played-start : (column : ℕ → Phase → Outcome) (course : Course) (run : NodeProgress)
    → run ≡ record { course = course; machine = machine_before course 0 None false; running = false } → IsStateAfter run [] → IsPlayed column run []
played-start column course run is stands = record { idle = ap (λ (r : NodeProgress). r.running) is; stands = stands; told = tt }

module _ (column : ℕ → Phase → Outcome) (run : NodeProgress) (es : List Ended) (is : IsPlayed column run es) where
  module _ (attempt : ℕ) (phase : Phase) (next : next_of run.machine run.machine.phase ≡ Some (attempt, phase)) where
    pub played-more : (new : NodeProgress) → new ≡ ended_with run (column attempt phase)
        → (more : List Ended) → more ≡ es ++ got-at run.course attempt phase (column attempt phase) ∷ [] → IsPlayed column new more
    played-more new e more m =
        let p = phase-from run.machine run.machine.phase attempt phase next in
        let s = end-behind run es is.stands phase p.1 (column attempt phase) new e in
        let grown : es ++ end_at run.course (next_after run.course es) (column attempt phase) ≡ more =
        ap (λ o. es ++ end_at run.course o (column attempt phase)) (sym (next-behind run es is.stands) ∙ next) ∙ sym m in
        record {
          idle = ap (λ (r : NodeProgress). r.running) e;
          stands = subst (IsStateAfter new) grown s;
          told = subst (λ (c : Course). Told (masked c column) more) (sym (ap (λ (r : NodeProgress). r.course) e))
              (subst (Told (masked run.course column)) (sym m)
              (Told-push (masked run.course column) es (got-at run.course attempt phase (column attempt phase)) is.told refl));
        }

    pub played-less : (new : NodeProgress) → new ≡ ended_with run (column attempt phase)
        → left new.course new.machine < left run.course run.machine
    played-less new e =
        let p = phase-from run.machine run.machine.phase attempt phase next in
        subst (λ (r : NodeProgress). left r.course r.machine < left run.course run.machine) (sym e)
        (step-left run.course run.machine (counted_at run.course run.machine.phase (column attempt phase)) phase
        (subst (HasPre run.course) (sym is.stands.machine) (pre-after run.course es)) p.1
        (subst (λ (s : MachineState). s.attempt ≤ run.course.retries) (sym is.stands.machine) (machine-attempt run.course es)))

  -- a story that is over
  pub played-over : next_of run.machine run.machine.phase ≡ None
      → record { state = state_by run.machine; history = es; attempts = attempts_ended run.machine; value = run.machine.value } ≡ fate_by_story (story run.course column)
  played-over over =
      let f : Fits run.course es _ = history-fits run.course [] es (fits-nil run.course _) is.stands.history in
      let g : Fits run.course es column = record { plays = f.plays; told = is.told } in
      let none : next_after run.course es ≡ None = sym (next-behind run es is.stands) ∙ over in
      let state = state-behind run es is.stands
      ∙ (λ j. if is_good_after run.course es then Done else if is_none (none j) then Error else NotRun)
      ∙ (λ j. if whole-good run.course es f none column g j then Done else Error) in
      let phases = whole-phases run.course es f none column g in
      let count = attempts-behind run es is.stands ∙ whole-count run.course es f none column g in
      let value = value-behind run es is.stands ∙ whole-value run.course es f none column g in
      λ j. record { state = state j; history = phases j; attempts = count j; value = value j }
