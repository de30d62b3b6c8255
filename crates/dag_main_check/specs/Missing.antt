-- The file of which a fault tells that it is missing.
use Rattle.std.specs.Prelude.{ℕ, List, Option, Some, None}
use Rattle.splices_flat.specs.declared.fault.DagFault.{DagFault}
use Rattle.splices_flat.specs.declared.fault.DagFault.TheVariants as files
use Rattle.run_plan.specs.declared.fault.PlanFault.{PlanFault}
use Rattle.run_plan.specs.declared.fault.PlanFault.TheVariants as plans
use Rattle.dag_main_check.specs.declared.fault.RunFault.{RunFault}
use Rattle.dag_main_check.specs.declared.fault.RunFault.TheVariants.{InFiles, InPlan}

-- that of the DAG or of a splice
abbrev pub missing_file : DagFault → Option (List ℕ)
missing_file (files.MissingFile path) = Some path
missing_file _ = None

-- a submit file
abbrev pub missing_submit : PlanFault → Option (List ℕ)
missing_submit (plans.MissingFile path) = Some path
missing_submit _ = None

-- its path; none for a fault of another kind
abbrev pub missing_in : RunFault → Option (List ℕ)
missing_in (InFiles fault) = missing_file fault
missing_in (InPlan fault) = missing_submit fault
missing_in _ = None
