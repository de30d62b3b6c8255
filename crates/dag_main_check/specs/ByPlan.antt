-- What is answered of a run.
use Rattle.std.specs.Prelude.{◌≡◌, ℕ, Bool, List, Option}
use Rattle.splices_flat.specs.Opening.{Files}
use Rattle.run_plan.specs.Plan.{Plan}
use Rattle.dag_main_check.specs.Planned.{IsPlanWith}
use Rattle.dag_main_check.specs.Warnings.{warning_lines}

-- Something is answered of the plan of a path's files, with a rescue file or without one, and this flag; and its files' warnings.
pub record IsAnswerByPlan (always_post : Bool) (files : Files) (entries : List (List ℕ × List ℕ)) (path : List ℕ) (rescue : Option (List ℕ)) (Answered : Plan → Type 0) (warnings : List ℕ) : Type 0 where
  pub plan : Plan
  pub planned : IsPlanWith always_post files entries path rescue plan
  pub answered : Answered plan
  pub warnings_are : warnings ≡ warning_lines plan.graph.dag.warnings
