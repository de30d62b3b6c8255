-- How many nodes are in error after a record.
use Rattle.std.specs.Prelude.{ℕ, suc, List, if◌then◌else◌}
use Rattle.node_machine.specs.NodeProgress.{NodeProgress}
use Rattle.node_machine.specs.declared.Record.{Record}
use Rattle.node_machine.specs.declared.Record.TheVariants.{End}
use Rattle.run_plan.specs.Plan.{Plan}
use Rattle.sched_core.specs.Core.{is_stuck_at}

-- the ordinary nodes in error, once a record made these of the nodes
abbrev pub failed_after : Plan → List NodeProgress → ℕ → Record → ℕ
failed_after plan runs failed (End key outcome) = if is_stuck_at plan runs key.node then suc failed else failed
failed_after plan runs failed _ = failed
