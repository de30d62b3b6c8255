use Rattle.std.proofs.Common.{◌∙◌, ap}
use Rattle.splices_flat.specs.Dag.{Dag}
use Rattle.dag_graph.specs.Graph.{Network}
use Rattle.run_plan.specs.Plan.{Plan, count_of}
use Rattle.dag_main_check.specs.Warnings.{warning_lines}
use Rattle.redo.proofs.here.marked_of.Goals as goal

pub returns-clause-marked : goal.returns-clause-marked
returns-clause-marked c = record {
  redone = c.in_ok-redone.ensures.redone;
  total_is = c.count-total.ensures.is ∙ ap count_of c.plan-2.ensures;
  warnings_are = c.in_ok-warnings.ensures ∙ ap warning_lines (c.warnings.ensures ∙ ap (λ (d : Dag). d.warnings) (c.flat.ensures ∙ ap (λ (n : Network). n.dag) (c.graph.ensures.is ∙ ap (λ (p : Plan). p.graph) c.plan.ensures)));
}
