use Rattle.std.proofs.Common.{ap, ◌∙◌}
use Rattle.std.proofs.lemmas.Result.{IfOk-weaker}
use Rattle.splices_flat.specs.Dag.{Dag}
use Rattle.dag_graph.specs.Graph.{Network}
use Rattle.dag_main_check.specs.Warnings.{warning_lines}
use Rattle.report_answers.proofs.pages.warnings_of.Goals as goal

pub returns : goal.returns
returns c =
    IfOk-weaker c.warning_text.result _ _
    (λ text is. is ∙ ap warning_lines (c.warnings.ensures ∙ ap (λ (d : Dag). d.warnings) (c.flat.ensures ∙ ap (λ (n : Network). n.dag) (c.graph.ensures.is ∙ ap (λ p. p.graph) c.plan.ensures))))
    c.warning_text.ensures
