-- How many states a record looks at.
use Rattle.std.specs.Prelude.{ℕ, ◌+◌, ◌-◌, Bool, not, ◌&&◌, List, ◌∷◌, length, if◌then◌else◌}
use Rattle.dag_graph.specs.Graph.{children_of}
use Rattle.run_plan.specs.Plan.{Plan, count_of}
use Rattle.node_machine.specs.declared.Record.{Record}
use Rattle.node_machine.specs.declared.Record.TheVariants.{Life, Launch, End, Finish}
use Rattle.sched_core.specs.Run.{is_aborted}
use Rattle.sched_core.specs.Bound.{node_total}

-- the record ends the run by its abort
abbrev pub stops : Plan → List Record → Record → Bool
stops plan past entry = is_aborted plan (entry ∷ past) && not (is_aborted plan past)

-- The most states that are looked at where a record is applied: one at a launch and at the end of the run; at the end of a
-- phase that of its node, those of the node's children and one more; all after a life and at an abort.
abbrev pub most_looks : Plan → List Record → Record → ℕ
most_looks plan past Life = node_total plan
most_looks plan past (Launch key number) = 1
most_looks plan past (End key outcome) =
    if stops plan past (End key outcome) then node_total plan
    else 2 + length (children_of plan.graph.dag key.node)
most_looks plan past (Finish status) = 1

-- those beside the state of its own node, where it is given whether the record aborts the run
abbrev pub further_looks : Plan → Record → Bool → ℕ
further_looks plan Life stopped = node_total plan
further_looks plan (Launch key number) stopped = 0
further_looks plan (End key outcome) stopped =
    if stopped then count_of plan - 1 else length (children_of plan.graph.dag key.node)
further_looks plan (Finish status) stopped = 0
