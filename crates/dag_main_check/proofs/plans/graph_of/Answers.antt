use Rattle.std.proofs.Common.{subst, sym}
use Rattle.splices_flat.specs.FileSet.{bytes_of}
use Rattle.dag_main_check.specs.Planned.{IsGraphFault}
use Rattle.dag_main_check.proofs.Refusals.{handed-on}
use Rattle.dag_main_check.proofs.PlansOfFiles.{unopened, no-graph}
use Rattle.dag_main_check.proofs.plans.graph_of.Goals as goal

pub returns-in_err-dag-clause-refused : goal.returns-in_err-dag-clause-refused
returns-in_err-dag-clause-refused c =
    let refused = IsGraphFault (bytes_of c.args.files.now) c.args.path.now in
    handed-on refused c.from_residual.result c.from_residual.ensures.1
    (λ fault is. subst refused (sym is) (unopened (bytes_of c.args.files.now) c.args.path.now c.in_err-dag.field-0.0 c.in_err-dag.ensures))

pub returns-in_err-graph-clause-refused : goal.returns-in_err-graph-clause-refused
returns-in_err-graph-clause-refused c =
    let refused = IsGraphFault (bytes_of c.args.files.now) c.args.path.now in
    handed-on refused c.from_residual-in_err-graph.result c.from_residual-in_err-graph.ensures.1
    (λ fault is. subst refused (sym is)
    (no-graph (bytes_of c.args.files.now) c.args.path.now c.in_ok-dag.dag c.in_err-graph.field-0.0 c.in_ok-dag.ensures c.in_err-graph.ensures.cycle))
