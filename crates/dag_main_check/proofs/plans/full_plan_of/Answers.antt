use Rattle.splices_flat.specs.FileSet.{bytes_of}
use Rattle.std.proofs.Common.{false, subst, sym}
use Rattle.dag_main_check.specs.Checked.{IsCheckFault, has_no_graph}
use Rattle.dag_main_check.proofs.Refusals.{handed-on}
use Rattle.dag_main_check.proofs.PlansOfFiles.{full-dag, full-acyclic, full-sound, full-refused}
use Rattle.dag_main_check.proofs.plans.full_plan_of.Goals as goal

pub returns-in-Ok-clause-dag : goal.returns-in-Ok-clause-dag
returns-in-Ok-clause-dag c =
    full-dag false (bytes_of c.args.files.now) c.args.path.now c.in_ok-graph.graph _ c.in_ok-graph.ensures.graph.is_dag c.in_ok-graph.ensures.graph.acyclic c.in-Ok.plan c.in-Ok.ensures.plan

pub returns-in-Ok-clause-acyclic : goal.returns-in-Ok-clause-acyclic
returns-in-Ok-clause-acyclic c =
    full-acyclic false (bytes_of c.args.files.now) c.args.path.now c.in_ok-graph.graph _ c.in_ok-graph.ensures.graph.is_dag c.in_ok-graph.ensures.graph.acyclic c.in-Ok.plan c.in-Ok.ensures.plan

pub returns-in-Ok-clause-sound : goal.returns-in-Ok-clause-sound
returns-in-Ok-clause-sound c =
    full-sound false (bytes_of c.args.files.now) c.args.path.now c.in_ok-graph.graph _ c.in_ok-graph.ensures.graph.is_dag c.in_ok-graph.ensures.graph.acyclic c.in-Ok.plan c.in-Ok.ensures.plan

pub returns-in-Err-clause-refused : goal.returns-in-Err-clause-refused
returns-in-Err-clause-refused c =
    rw (c.from.ensures) (full-refused false (bytes_of c.args.files.now) c.args.path.now c.in_ok-graph.graph _ c.in_ok-graph.ensures.graph.is_dag c.in_ok-graph.ensures.graph.acyclic c.in-Err.fault c.in-Err.ensures.refused.1)

pub returns-in_err-graph-clause-refused : goal.returns-in_err-graph-clause-refused
returns-in_err-graph-clause-refused c =
    handed-on (IsCheckFault (bytes_of c.args.files.now) c.args.path.now) c.from_residual.result c.from_residual.ensures.1
    (λ fault same. subst (IsCheckFault (bytes_of c.args.files.now) c.args.path.now) (sym same) (has_no_graph c.in_err-graph.field-0.0 c.in_err-graph.ensures.refused))
