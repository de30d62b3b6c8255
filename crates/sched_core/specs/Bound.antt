-- How many records one life of a run can add. Each launch and each ending lowers what is left, so a run ends.
use Rattle.std.specs.Prelude.{ℕ, zero, suc, ◌+◌, ◌-◌, ◌*◌, Bool, true, false, not, ◌&&◌, List, [], ◌∷◌, Option, Some, None, is_some, nat_lt, if◌then◌else◌}
use Rattle.node_machine.specs.declared.Phase.{Phase}
use Rattle.node_machine.specs.declared.Phase.TheVariants.{Pre, Job, Post}
use Rattle.node_machine.specs.declared.Course.{Course}
use Rattle.node_machine.specs.NodeProgress.{NodeProgress}
use Rattle.run_plan.specs.Plan.{Plan, node_at, count_of}
use Rattle.node_machine.specs.declared.Record.{Record}
use Rattle.node_machine.specs.declared.Record.TheVariants.{Life}
use Rattle.sched_core.specs.Run.{is_aborted}
use Rattle.sched_core.specs.Core.{node_progress}

-- the sum over the numbers below n
abbrev pub sum_below : (ℕ → ℕ) → ℕ → ℕ
sum_below f zero = 0
sum_below f (suc n) = f n + sum_below f n

-- the phases of an attempt: PRE and POST where there are such scripts, and the job
abbrev pub phases_in : Course → ℕ
phases_in course = (if course.pre then 1 else 0) + 1 + (if course.post then 1 else 0)

-- the phases of all attempts that a node may have
abbrev pub phases_of_node : Plan → ℕ → ℕ
phases_of_node plan node = phases_in (node_at plan node).course * suc (node_at plan node).course.retries

-- the nodes of a plan, FINAL among them where there is one
abbrev pub node_total : Plan → ℕ
node_total plan = if is_some plan.final_node then suc (count_of plan) else count_of plan

-- the sum over the nodes of phases times (retries + 1)
abbrev pub all_phases : Plan → ℕ
all_phases plan = sum_below (phases_of_node plan) (node_total plan)

-- these records hold no Life
abbrev pub has_no_life : List Record → Bool
has_no_life [] = true
has_no_life (Life ∷ past) = false
has_no_life (_ ∷ past) = has_no_life past

-- of an attempt: this phase and those after it, as far as there are such
abbrev pub phases_from : Course → Phase → ℕ
phases_from course Pre = phases_in course
phases_from course Job = 1 + (if course.post then 1 else 0)
phases_from course Post = 1

-- how many phases can still end, where this one comes next
abbrev pub phases_left : Course → ℕ → Option Phase → ℕ
phases_left course attempt None = 0
phases_left course attempt (Some phase) = phases_from course phase + phases_in course * (course.retries - attempt)

-- a phase that is to come is launched and ends, one that is outstanding only ends
abbrev pub records_to_come : NodeProgress → ℕ
records_to_come run = 2 * phases_left run.course run.machine.attempt run.machine.phase - (if run.running then 1 else 0)

-- a node can still have phases: it is not done from the start, and after an abort it is FINAL
abbrev pub may_still_run : Plan → List Record → ℕ → Bool
may_still_run plan past node =
    not (node_at plan node).done && (if nat_lt node (count_of plan) then not (is_aborted plan past) else is_some plan.final_node)

-- the records that a node can still add in this life
abbrev pub node_records_left : Plan → List Record → ℕ → ℕ
node_records_left plan past node = if may_still_run plan past node then records_to_come (node_progress plan past node) else 0

-- the records that the nodes can still add in this life
unfoldable pub records_left : Plan → List Record → ℕ
records_left plan past = sum_below (node_records_left plan past) (suc (count_of plan))
