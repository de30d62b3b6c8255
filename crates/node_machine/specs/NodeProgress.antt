-- One node's run as contracts see it.
use Rattle.std.specs.Prelude.{◌≡◌, ◌≤◌, Bool, true, IsSome}
use Rattle.node_machine.specs.declared.Course.{Course}
use Rattle.node_machine.specs.declared.MachineState.{MachineState}

-- what the files say, where the node is, and whether its next phase runs
pub record NodeProgress : Type 0 where
  pub course : Course
  pub machine : MachineState
  pub running : Bool

-- no more attempts than the retries allow, and only where a phase comes next can one run
pub record IsPossible (run : NodeProgress) : Type 0 where
  pub allowed : run.machine.attempt ≤ run.course.retries
  pub next : run.running ≡ true → IsSome run.machine.phase
