-- Which nodes wait for one.
use Rattle.std.specs.Prelude.{◌≡◌, ℕ, suc, not, List, map, filter}
use Rattle.std.specs.List.{range_with_len}
use Rattle.dag_graph.specs.Graph.{children_of}
use Rattle.node_machine.specs.declared.Record.{Record}
use Rattle.run_plan.specs.Plan.{Plan, count_of}
use Rattle.sched_core.specs.Run.{is_done}
use Rattle.failure_report.specs.Reaching.{IsReachCount}

-- the children of a node that are not done
abbrev pub held_by : Plan → List Record → ℕ → List ℕ
held_by plan past node = filter (λ child. not (is_done plan past child)) (children_of plan.graph.dag node)

-- So many nodes wait for one: those that are not done and are children of it, or of one that waits for it.
abbrev pub IsWaitingCount : Plan → List Record → (blocker : ℕ) → (count : ℕ) → Type 0
IsWaitingCount plan past blocker count = IsReachCount (held_by plan past) blocker count

-- of each node, FINAL's place after the others, its children that are not done
abbrev pub AreChildrenLeft : Plan → List Record → List (List ℕ) → Type 0
AreChildrenLeft plan past lists = lists ≡ map (held_by plan past) (range_with_len 0 (suc (count_of plan)))
