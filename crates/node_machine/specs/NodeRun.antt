-- Which phases of one node's run have ended, and what a call makes of the run.
use Rattle.std.specs.Prelude.{◌≡◌, ℕ, true, false, List, [], ◌∷◌, ◌++◌, Option, Some, None, IsTrue}
use Rattle.node_machine.specs.declared.Phase.{Phase}
use Rattle.node_machine.specs.declared.Outcome.{Outcome}
use Rattle.node_machine.specs.declared.Ended.{Ended}
use Rattle.node_machine.specs.declared.Course.{Course}
use Rattle.node_machine.specs.Story.{next_after, ends_with, is_history}
use Rattle.node_machine.specs.MachineState.{machine_step, machine_after}
use Rattle.node_machine.specs.NodeProgress.{NodeProgress}

-- these phases have ended, one after another, and the node is in the state after them
pub record IsStateAfter (run : NodeProgress) (es : List Ended) : Type 0 where
  pub history : IsTrue (is_history run.course es)
  pub machine : run.machine ≡ machine_after run.course es

-- what counts where this outcome is handed in: the job of a NOOP ends with Exit 0
abbrev pub counted_at : Course → Option Phase → Outcome → Outcome
counted_at course None outcome = outcome
counted_at course (Some phase) outcome = ends_with course phase outcome

-- the phase of this attempt, ended so
abbrev pub end_at : Course → Option (ℕ × Phase) → Outcome → List Ended
end_at course None outcome = []
end_at course (Some next) outcome =
    record { attempt = next.0; phase = next.1; outcome = ends_with course next.1 outcome } ∷ []

-- these phases, and then the next one of the story, ended so
abbrev pub with_phase_ended : Course → List Ended → Outcome → List Ended
with_phase_ended course es outcome = es ++ end_at course (next_after course es) outcome

-- the same node with its next phase running
abbrev pub started : NodeProgress → NodeProgress
started run = record run { running = true }

-- the same node with nothing running
abbrev pub stopped : NodeProgress → NodeProgress
stopped run = record run { running = false }

-- the same node, its next phase ended so
abbrev pub ended_with : NodeProgress → Outcome → NodeProgress
ended_with run outcome = record {
  course = run.course;
  machine = machine_step run.course run.machine (counted_at run.course run.machine.phase outcome);
  running = false;
}
