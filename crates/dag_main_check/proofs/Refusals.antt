-- Why a command is refused.
use Rattle.std.proofs.Common.{Bool, ℕ, List, Option, Some, Result, Ok, Err}
use Rattle.std.specs.Prelude.{IfErr, IsErrAnd}
use Rattle.splices_flat.specs.Opening.{Files}
use Rattle.dag_graph.specs.Graph.{Network}
use Rattle.run_plan.specs.Digest.{digest_of}
use Rattle.run_plan.specs.PlanAnswers.{Fails}
use Rattle.run_plan.specs.Submitted.{plan_at}
use Rattle.run_plan.specs.declared.fault.PlanFault.{PlanFault}
use Rattle.run_plan.specs.declared.fault.PlanFault.TheVariants as plans
use Rattle.dag_main_check.specs.Checked.{in_plan}
use Rattle.dag_main_check.specs.Planned.{IsPlanByFault, has_plan_fault, planning_had_no_memory}
use Rattle.dag_main_check.specs.declared.fault.RunFault.{RunFault}

-- a fault that is handed on
pub handed-on : {A : Type 0} {Q : RunFault → Type 0} (P : RunFault → Type 0) (r : Result A RunFault) → IsErrAnd r Q → ((fault : RunFault) → Q fault → P fault) → IfErr r P
handed-on P (Ok x) h more = absurd h
handed-on P (Err fault) h more = more fault h

pub weaker : {A : Type 0} {Q : RunFault → Type 0} (P : RunFault → Type 0) (r : Result A RunFault) → IfErr r Q → ((fault : RunFault) → Q fault → P fault) → IfErr r P
weaker P (Ok x) h more = tt
weaker P (Err fault) h more = more fault h

-- the plan of a graph
pub by-fault : (always : Bool) (files : Files) (entries : List (List ℕ × List ℕ)) (rescue : Option (List ℕ)) (graph : Network) (fault : PlanFault)
    → Fails fault (plan_at always graph (Some files) rescue (digest_of graph.dag.top entries rescue)) → IsPlanByFault files entries rescue graph (in_plan fault)
by-fault always files entries rescue graph plans.Memory fails = planning_had_no_memory
by-fault always files entries rescue graph (plans.MissingFile path) fails = has_plan_fault always (plans.MissingFile path) fails
by-fault always files entries rescue graph (plans.InSubmit path fault) fails = has_plan_fault always (plans.InSubmit path fault) fails
by-fault always files entries rescue graph (plans.InMacro node fault) fails = has_plan_fault always (plans.InMacro node fault) fails
by-fault always files entries rescue graph (plans.NoExecutable node) fails = has_plan_fault always (plans.NoExecutable node) fails
by-fault always files entries rescue graph (plans.BadUniverse node) fails = has_plan_fault always (plans.BadUniverse node) fails
by-fault always files entries rescue graph (plans.InRescue fault) fails = has_plan_fault always (plans.InRescue fault) fails
