-- What a core counts beside its states, so that the end of a run is judged without a look at them.
use Rattle.std.specs.Prelude.{◌≡◌, ℕ, List, if◌then◌else◌}
use Rattle.node_machine.specs.declared.Record.{Record}
use Rattle.node_machine.specs.declared.Record.TheVariants.{End}
use Rattle.run_plan.specs.Plan.{Plan, node_at, count_of}
use Rattle.sched_core.specs.Bound.{sum_below}
use Rattle.sched_core.specs.Run.{is_done, status_of_abort, abort_status}

-- the ordinary nodes that are done
abbrev pub done_in : Plan → List Record → ℕ
done_in plan past = sum_below (λ node. if is_done plan past node then 1 else 0) (count_of plan)

-- the exit status that an abort by a node gives the run
abbrev pub status_of_node : Plan → ℕ → ℕ
status_of_node plan node = abort_status (node_at plan node).abort_return (node_at plan node).course.abort_on

-- and the one by the end of a phase
abbrev pub stop_status : Plan → ℕ → Record → ℕ
stop_status plan status (End key outcome) = status_of_node plan key.node
stop_status plan status _ = status

-- what is counted is what the records say
pub record IsTallied (plan : Plan) (past : List Record) (done status : ℕ) : Type 0 where
  pub done_is : done ≡ done_in plan past
  pub status_is : status ≡ status_of_abort plan past (count_of plan)
