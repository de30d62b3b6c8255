use Rattle.splices_flat.specs.FileSet.{bytes_of, entries_of}
use Rattle.std.specs.Option.{option_map}
use Rattle.dag_main_check.specs.Planned.{IsPlanWithFault, has_no_graph, not_planned}
use Rattle.dag_main_check.proofs.Refusals.{handed-on, weaker}
use Rattle.std.proofs.Common.{subst, sym}
use Rattle.dag_main_check.proofs.plans.plan_with.Goals as goal

pub returns-in_err-graph-clause-refused : goal.returns-in_err-graph-clause-refused
returns-in_err-graph-clause-refused c =
    handed-on (IsPlanWithFault (bytes_of c.args.files.now) (entries_of c.args.files.now) c.args.path.now (option_map (λ b. b.now) c.args.rescue))
    c.from_residual.result c.from_residual.ensures.1
    (λ fault same. subst (IsPlanWithFault (bytes_of c.args.files.now) (entries_of c.args.files.now) c.args.path.now (option_map (λ b. b.now) c.args.rescue)) (sym same)
    (has_no_graph c.in_err-graph.field-0.0 c.in_err-graph.ensures.refused))

pub returns-clause-refused : goal.returns-clause-refused
returns-clause-refused c =
    weaker (IsPlanWithFault (bytes_of c.args.files.now) (entries_of c.args.files.now) c.args.path.now (option_map (λ b. b.now) c.args.rescue))
    c.plan_by.result c.plan_by.ensures.refused
    (λ fault is. not_planned c.in_ok-graph.graph fault c.in_ok-graph.ensures.graph is)
