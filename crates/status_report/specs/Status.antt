-- Where a node is in a run.
use Rattle.std.specs.Prelude.{ℕ, Bool, List, [], ◌∷◌, Option, Some, None, is_none, nat_lt, ◌==◌, if◌then◌else◌}
use Rattle.std.specs.List.{list_all}
use Rattle.node_machine.specs.declared.Phase.{Phase}
use Rattle.node_machine.specs.declared.Phase.TheVariants.{Pre, Job, Post}
use Rattle.node_machine.specs.declared.Key.{Key}
use Rattle.node_machine.specs.declared.State.{State}
use Rattle.node_machine.specs.declared.State.TheVariants as state
use Rattle.run_plan.specs.Plan.{Plan, node_at, count_of}
use Rattle.node_machine.specs.declared.Record.{Record}
use Rattle.sched_core.specs.Run.{next, is_done, outstanding, is_final_ready}
use Rattle.status_report.specs.declared.status.Status.{Status}
use Rattle.status_report.specs.declared.status.Status.TheVariants.{Done, Error, PreRun, Submitted, PostRun, Ready, NotReady}

-- the phase of this node that is among these keys, if one is
abbrev pub phase_of : ℕ → List Key → Option Phase
phase_of node [] = None
phase_of node (key ∷ keys) = if key.node == node then Some key.phase else phase_of node keys

-- a node a phase of which runs
abbrev pub running_status : Phase → Status
running_status Pre = PreRun
running_status Job = Submitted
running_status Post = PostRun

-- each parent of an ordinary node is done; of the FINAL node: it is its turn
abbrev pub is_due : Plan → List Record → ℕ → Bool
is_due plan past node =
    if nat_lt node (count_of plan) then list_all (is_done plan past) (node_at plan node).parents
    else is_final_ready plan past

-- a node that has phases to come: one runs, or it is due, or it waits
abbrev pub status_by : Option Phase → Bool → Status
status_by None due = if due then Ready else NotReady
status_by (Some phase) due = running_status phase

-- Where a node is: it is done, or no phase of it is to come, or the phase that is outstanding, or whether it is due. An
-- abort makes no node less due.
abbrev pub status_at : Plan → List Record → ℕ → Status
status_at plan past node =
    if is_done plan past node then Done
    else if is_none (next plan past node) then Error
    else status_by (phase_of node (outstanding plan past)) (is_due plan past node)

-- where a node is that came to this state, with nothing running: one that has not run waits
abbrev pub status_of_state : State → Status
status_of_state state.Done = Done
status_of_state state.Error = Error
status_of_state state.NotRun = NotReady
