-- The answer of a check.
use Rattle.std.proofs.Common.{◌≡◌, ℕ, List, Some, Result, Ok, Err, IfOk, IfErr, string_bytes, subst, sym}
use Rattle.splices_flat.specs.Dag.{Dag}
use Rattle.splices_flat.specs.Opening.{Files}
use Rattle.splices_flat.specs.Opened.{dag_at}
use Rattle.dag_graph.specs.Graph.{IsAcyclic}
use Rattle.run_plan.specs.Submitted.{first_plan_fault, all_nodes}
use Rattle.dag_main_check.specs.Checked.{IsCheckOf, IsCheckFault, checking_had_no_memory, check_text_of}
use Rattle.dag_main_check.specs.Warnings.{warning_lines}
use Rattle.dag_main_check.specs.declared.fault.RunFault.{RunFault}
use Rattle.dag_main_check.specs.declared.form.CheckForm.{CheckForm}
use Rattle.dag_main_check.specs.declared.fault.RunFault.TheVariants.{Memory}
use Rattle.dag_main_check.specs.declared.warnings.Answer.{Answer}

-- the text and the warnings of a sound DAG
pub is_check : (form : CheckForm) (files : Files) (path : List ℕ) (dag : Dag) (answer : Result Answer RunFault) → dag_at files path ≡ Ok dag → IsAcyclic dag.edges →
    first_plan_fault (Some files) (all_nodes dag) ≡ Ok tt → IfOk answer (λ (a : Answer). string_bytes a.text ≡ check_text_of form path dag) →
    IfOk answer (λ (a : Answer). string_bytes a.warnings ≡ warning_lines dag.warnings) → IfOk answer (λ (a : Answer). a.status ≡ 0) →
    IfOk answer (λ (a : Answer). IsCheckOf form files path (string_bytes a.text) (string_bytes a.warnings) a.status)
is_check form files path dag (Ok a) opened acyclic sound text warnings status =
    record { dag = dag; is_dag = opened; acyclic = acyclic; sound = sound; text_is = text; warnings_are = warnings; status_is = status }
is_check form files path dag (Err fault) opened acyclic sound text warnings status = tt

-- lack of memory may stop any check
pub check-memory : (files : Files) (path : List ℕ) (answer : Result Answer RunFault) → IfErr answer (λ (fault : RunFault). fault ≡ Memory) → IfErr answer (IsCheckFault files path)
check-memory files path (Ok a) h = tt
check-memory files path (Err fault) h = subst (IsCheckFault files path) (sym h) checking_had_no_memory
