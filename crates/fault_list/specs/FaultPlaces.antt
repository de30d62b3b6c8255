-- The line that a fault names.
use Rattle.std.specs.Prelude.{ℕ, Bool, true, false, List, Option, Some, None, if◌then◌else◌}
use Rattle.dag_reader.specs.Fault.{span_of}
use Rattle.splices_flat.specs.declared.fault.DagFault.{DagFault}
use Rattle.splices_flat.specs.declared.fault.DagFault.TheVariants.{InFile, DuplicateName, UnknownNode, FinalInSplice, SpliceSetting, EmptySpliceEdge, FinalSetting}
use Rattle.submit_file.specs.declared.fault.SubmitFault.{SubmitFault}
use Rattle.submit_file.specs.declared.fault.SubmitFault.TheVariants.{InLine}
use Rattle.run_plan.specs.declared.fault.PlanFault.{PlanFault}
use Rattle.run_plan.specs.declared.fault.PlanFault.TheVariants.{InSubmit}
use Rattle.dag_main_check.specs.declared.fault.RunFault.{RunFault}
use Rattle.dag_main_check.specs.declared.fault.RunFault.TheVariants.{InFiles, InPlan}

-- the line of the DAG file or of a splice that a fault names: the path of the file, and the line's number
abbrev pub dag_place : DagFault → Option (List ℕ × ℕ)
dag_place (InFile path fault) = Some (path, (span_of fault).line)
dag_place (DuplicateName path span) = Some (path, span.line)
dag_place (UnknownNode path span) = Some (path, span.line)
dag_place (FinalInSplice path span) = Some (path, span.line)
dag_place (SpliceSetting path span) = Some (path, span.line)
dag_place (EmptySpliceEdge path span) = Some (path, span.line)
dag_place (FinalSetting path span) = Some (path, span.line)
dag_place _ = None

-- the line of the submit file of this path
abbrev pub submit_place : List ℕ → SubmitFault → Option (List ℕ × ℕ)
submit_place path (InLine line fault) = Some (path, line)
submit_place path _ = None

abbrev pub plan_place : PlanFault → Option (List ℕ × ℕ)
plan_place (InSubmit path fault) = submit_place path fault
plan_place _ = None

-- the line that a fault names, if it names one
abbrev pub fault_place : RunFault → Option (List ℕ × ℕ)
fault_place (InFiles fault) = dag_place fault
fault_place (InPlan fault) = plan_place fault
fault_place _ = None

-- A fault of names: a line names what no line declares (S5), or what can't be there (S9, S10, S11).
abbrev pub is_name_fault : DagFault → Bool
is_name_fault (UnknownNode path span) = true
is_name_fault (SpliceSetting path span) = true
is_name_fault (EmptySpliceEdge path span) = true
is_name_fault (FinalSetting path span) = true
is_name_fault _ = false

abbrev pub is_of_names : RunFault → Bool
is_of_names (InFiles fault) = is_name_fault fault
is_of_names _ = false

-- the line of a fault as far as a list has it, in which faults of names count, or don't
abbrev pub listed_place : Bool → RunFault → Option (List ℕ × ℕ)
listed_place true fault = fault_place fault
listed_place false fault = if is_of_names fault then None else fault_place fault
