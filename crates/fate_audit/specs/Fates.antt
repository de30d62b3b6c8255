-- Lists of fates.
use Rattle.std.specs.Prelude.{◌≡◌, ℕ, nat_lt, List, length, slice_index_or, slice_set, if◌then◌else◌}
use Rattle.node_machine.specs.declared.State.TheVariants.{NotRun}
use Rattle.node_machine.specs.Story.{Table}
use Rattle.node_machine.specs.OutcomeTable.{Entry, outcome_at}
use Rattle.run_plan.specs.Plan.{Plan, node_at, count_of}
use Rattle.sched_core.specs.Fate.{Fate, without_attempts, fate_by, AreFates}

-- the outcomes of a plan's nodes, by their names
abbrev pub table_by : Plan → List Entry → Table
table_by plan entries node attempt phase = outcome_at entries (node_at plan node).name attempt phase

-- the fate in a list at a node's number
abbrev pub fate_at : List Fate → ℕ → Fate
fate_at fates node = slice_index_or fates node (without_attempts NotRun)

-- one fate for each ordinary node, in plan order: those of the recursion over parents
pub record AreFatesOf (plan : Plan) (table : Table) (fates : List Fate) : Type 0 where
  pub many : length fates ≡ count_of plan
  pub are : AreFates plan table (fate_at fates)

-- a list with the fate of a node by those in it; a number that is no node's changes nothing
abbrev pub filled : Plan → Table → List Fate → ℕ → List Fate
filled plan table fates node =
    if nat_lt node (length fates) then slice_set fates node (fate_by plan table (fate_at fates) node) else fates
