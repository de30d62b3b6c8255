use Rattle.splices_flat.specs.FileSet.{bytes_of}
use Rattle.dag_main_check.specs.Planned.{opening_had_no_memory}
use Rattle.dag_main_check.proofs.PlansOfFiles.{is-plan}
use Rattle.dag_main_check.proofs.plans.plan_of.Goals as goal

pub returns-clause-plan : goal.returns-clause-plan
returns-clause-plan c =
    is-plan c.args.always_post (bytes_of c.args.files.now) c.args.path.now c.in_ok-graph.graph c.in-Ok.plan c.in_ok-graph.ensures.graph.is_dag c.in_ok-graph.ensures.graph.acyclic c.in-Ok.ensures.plan
    (rw (← c.graph.ensures.is) c.order-order.ensures.parents_first)

pub returns-in_default-clause-refused : goal.returns-in_default-clause-refused
returns-in_default-clause-refused c = opening_had_no_memory
