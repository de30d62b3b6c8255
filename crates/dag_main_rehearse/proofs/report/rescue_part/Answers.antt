use Rattle.std.proofs.Common.{◌∙◌, List, Bool, ap, sym}
use Rattle.dag_graph.specs.Graph.{Network}
use Rattle.run_plan.specs.Plan.{Plan}
use Rattle.rescue_file.specs.Written.{ordinary_names, rescue_text_of}
use Rattle.recovery_manager.proofs.Marks.{marks-are}
use Rattle.dag_main_rehearse.proofs.RescueParts.{needed, not-needed}
use Rattle.dag_main_rehearse.proofs.report.rescue_part.Goals as goal

pub returns-then-not-needs_rescue-clause-ok : goal.returns-then-not-needs_rescue-clause-ok
returns-then-not-needs_rescue-clause-ok c =
    not-needed c.args.core.now.plan c.args.core.now.past _ (sym c.if-not-needs_rescue.ensures) c.new.ensures.bytes

pub returns-in-Ok-rescue_text-clause-ok : goal.returns-in-Ok-rescue_text-clause-ok
returns-in-Ok-rescue_text-clause-ok c =
    needed c.args.core.now.plan c.args.core.now.past _ (sym c.if-not-needs_rescue.ensures)
    (c.in-Ok-rescue_text.ensures.text
    ∙ ap (λ (ms : List Bool). rescue_text_of (ordinary_names c.graph.result.now.dag) ms) c.as_slice.ensures.value
    ∙ ap (λ (g : Network). rescue_text_of (ordinary_names g.dag) c.in-Ok.marks.items) (c.graph.ensures.is ∙ ap (λ (p : Plan). p.graph) c.plan.ensures)
    ∙ ap (λ (ms : List Bool). rescue_text_of (ordinary_names c.args.core.now.plan.graph.dag) ms) (marks-are c.args.core.now.plan c.args.core.now.past c.in-Ok.marks.items c.in-Ok.ensures.ok))
