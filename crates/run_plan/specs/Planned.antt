-- What each plan keeps.
use Rattle.std.specs.Prelude.{◌≡◌, ℕ, Bool, true, false, List, [], slice_index_or, Option}
use Rattle.run_plan_node.specs.Commands.{is_expandable}
use Rattle.run_plan.specs.Plan.{Plan, node_at}
use Rattle.run_plan.specs.Specs.{Sources, plan_from}
use Rattle.run_plan.specs.Submitted.{sources_of}
use Rattle.splices_flat.specs.Opening.{Files}

-- It is that of its graph, and the texts of its jobs can be expanded.
pub record IsPlanned (plan : Plan) : Type 0 where
  pub sources : Sources
  pub made : plan ≡ plan_from plan.graph sources plan.digest
  pub sound : (node : ℕ) → is_expandable (node_at plan node) ≡ true

-- where the jobs come from, and which nodes are marked
abbrev pub marked_sources : Bool → Option Files → List Bool → Sources
marked_sources always_post files marks = record (sources_of always_post files []) { marked = λ number. slice_index_or marks number false }
