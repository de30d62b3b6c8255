-- Where a node is, kept by one step at each phase that ends.
use Rattle.std.specs.Prelude.{ℕ, suc, ℤ, pos, Bool, true, false, ◌||◌, List, [], ◌∷◌, Option, Some, None, is_none, ◌==◌, if◌then◌else◌}
use Rattle.std.specs.Ordering.{int_eq}
use Rattle.node_machine.specs.declared.Phase.{Phase}
use Rattle.node_machine.specs.declared.Phase.TheVariants.{Pre, Job, Post}
use Rattle.node_machine.specs.declared.Outcome.{Outcome}
use Rattle.node_machine.specs.declared.Ended.{Ended}
use Rattle.node_machine.specs.declared.Course.{Course}
use Rattle.node_machine.specs.declared.MachineState.{MachineState}
use Rattle.node_machine.specs.declared.State.{State}
use Rattle.node_machine.specs.declared.State.TheVariants.{Done, Error, NotRun}
use Rattle.node_machine.specs.Story.{value_of, skips, is_exit_0, is_set_to, always_posts}

abbrev pub first_phase_of : Course → Phase
first_phase_of course = if course.pre then Pre else Job

-- before an attempt
abbrev pub machine_before : Course → ℕ → Option ℤ → Bool → MachineState
machine_before course i value good =
    record { attempt = i; phase = Some (first_phase_of course); value = value; good = good }

-- an attempt ends: it is the last, or one more follows
abbrev pub attempt_closed : Course → ℕ → ℤ → Bool → MachineState
attempt_closed course i value good =
    if (good || is_set_to course.unless_exit value || is_set_to course.abort_on value) || (i == course.retries)
    then record { attempt = i; phase = None; value = Some value; good = good }
    else machine_before course (suc i) (Some value) good

-- PRE fails: POST runs all the same, or the attempt ends
abbrev pub pre_failed : Course → MachineState → Outcome → MachineState
pre_failed course machine outcome =
    if always_posts course then record machine { phase = Some Post }
    else attempt_closed course machine.attempt (value_of outcome) false

abbrev pub machine_step_at : Course → MachineState → Option Phase → Outcome → MachineState
machine_step_at course machine None outcome = machine
machine_step_at course machine (Some Pre) outcome =
    if skips course outcome then attempt_closed course machine.attempt (pos 0) true
    else if is_exit_0 outcome then record machine { phase = Some Job }
    else pre_failed course machine outcome
machine_step_at course machine (Some Job) outcome =
    if course.post then record machine { phase = Some Post }
    else attempt_closed course machine.attempt (value_of outcome) (int_eq (value_of outcome) (pos 0))
machine_step_at course machine (Some Post) outcome =
    attempt_closed course machine.attempt (value_of outcome) (int_eq (value_of outcome) (pos 0))

-- the phase that comes next ends
abbrev pub machine_step : Course → MachineState → Outcome → MachineState
machine_step course machine outcome = machine_step_at course machine machine.phase outcome

abbrev pub steps : Course → MachineState → List Ended → MachineState
steps course machine [] = machine
steps course machine (e ∷ es) = steps course (machine_step course machine e.outcome) es

-- where a node is after these phases
abbrev pub machine_after : Course → List Ended → MachineState
machine_after course es = steps course (machine_before course 0 None false) es

abbrev pub next_of : MachineState → Option Phase → Option (ℕ × Phase)
next_of machine None = None
next_of machine (Some phase) = Some (machine.attempt, phase)

-- how many attempts have ended there
abbrev pub attempts_ended : MachineState → ℕ
attempts_ended machine = if is_none machine.phase then suc machine.attempt else machine.attempt

-- what a node has come to there
abbrev pub state_by : MachineState → State
state_by machine = if is_none machine.phase then (if machine.good then Done else Error) else NotRun
