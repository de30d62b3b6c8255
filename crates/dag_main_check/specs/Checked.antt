-- What `check` answers.
use Rattle.std.specs.Prelude.{◌≡◌, ℕ, List, ◌++◌, length, Option, Some, None, Ok, Err, codes, if◌then◌else◌}
use Rattle.std.specs.Fmt.{decimal}
use Rattle.splices_flat.specs.Dag.{Dag}
use Rattle.splices_flat.specs.declared.flat.FlatNode.{FlatNode}
use Rattle.splices_flat.specs.Opening.{Files}
use Rattle.splices_flat.specs.Opened.{dag_at}
use Rattle.dag_graph.specs.Graph.{IsAcyclic, edge_count_of}
use Rattle.run_plan.specs.PlanAnswers.{is_memory}
use Rattle.run_plan.specs.Submitted.{first_plan_fault, all_nodes}
use Rattle.run_plan.specs.declared.fault.PlanFault.{PlanFault}
use Rattle.dag_main_check.specs.declared.fault.RunFault.{RunFault}
use Rattle.dag_main_check.specs.declared.fault.RunFault.TheVariants.{InPlan, Memory}
use Rattle.dag_main_check.specs.Planned.{IsGraphFault}
use Rattle.dag_main_check.specs.CheckData.{check_json_of}
use Rattle.dag_main_check.specs.Warnings.{warning_lines}
use Rattle.dag_main_check.specs.declared.form.CheckForm.{CheckForm}
use Rattle.dag_main_check.specs.declared.form.CheckForm.TheVariants.{Line, Json}

abbrev pub yes_or_no : Option FlatNode → List ℕ
yes_or_no None = codes "no"
yes_or_no (Some node) = codes "yes"

-- `ok nodes=N edges=E final=yes` or `final=no`: the ordinary nodes, and the distinct pairs of a parent and a child
abbrev pub ok_line : Dag → List ℕ
ok_line dag = codes "ok nodes=" ++ (decimal (length dag.nodes) ++ (codes " edges=" ++ (decimal (edge_count_of dag)
    ++ (codes " final=" ++ (yes_or_no dag.final_node ++ codes "\n")))))

-- the text in a form, where the DAG file has this path: the line, or its JSON
abbrev pub check_text_of : CheckForm → List ℕ → Dag → List ℕ
check_text_of Line path = ok_line
check_text_of Json path = check_json_of path

-- The text in a form of the DAG of the file with this path, and its warnings: no node of it is its own ancestor, and each has a submit
-- file that can be read, with texts that can be expanded.
pub record IsCheckOf (form : CheckForm) (files : Files) (path text warnings : List ℕ) (status : ℕ) : Type 0 where
  pub dag : Dag
  pub is_dag : dag_at files path ≡ Ok dag
  pub acyclic : IsAcyclic dag.edges
  pub sound : first_plan_fault (Some files) (all_nodes dag) ≡ Ok tt
  pub text_is : text ≡ check_text_of form path dag
  pub warnings_are : warnings ≡ warning_lines dag.warnings
  pub status_is : status ≡ 0

-- Why a check is refused: the files make no graph; a node's submit file or a text of its job is refused, the first such fault in
-- plan order; memory ran out.
pub data IsCheckFault (files : Files) (path : List ℕ) : RunFault → Type 0 where
  has_no_graph : (fault : RunFault) → IsGraphFault files path fault → IsCheckFault files path fault
  not_sound : (dag : Dag) (fault : PlanFault) → dag_at files path ≡ Ok dag → IsAcyclic dag.edges →
      first_plan_fault (Some files) (all_nodes dag) ≡ Err fault → IsCheckFault files path (InPlan fault)
  checking_had_no_memory : IsCheckFault files path Memory

-- a fault of the plan, as that of a command
abbrev pub in_plan : PlanFault → RunFault
in_plan fault = if is_memory fault then Memory else InPlan fault
