use Rattle.std.proofs.Common.{◌∙◌, ap}
use Rattle.std.specs.List.{count_by}
use Rattle.dag_graph.specs.Graph.{Network}
use Rattle.run_plan.specs.Plan.{Plan}
use Rattle.rescue_file.specs.Written.{ordinary_names, rescue_text_of}
use Rattle.recovery_manager.proofs.Marks.{marks-are}
use Rattle.salvage.proofs.rescue.text_of.Goals as goal

pub returns-in-Ok-rescue_text-clause-text : goal.returns-in-Ok-rescue_text-clause-text
returns-in-Ok-rescue_text-clause-text c =
    let plan = c.args.core.now.plan in
    let graph = c.graph.ensures.is ∙ ap (λ (p : Plan). p.graph) c.plan.ensures in
    let marks = c.deref-2.ensures.value ∙ marks-are plan c.args.core.now.past c.in-Ok.marks.items c.in-Ok.ensures.ok in
    c.in-Ok-rescue_text.ensures.text
    ∙ ap (λ (n : Network). rescue_text_of (ordinary_names n.dag) c.deref-2.result.now) graph
    ∙ ap (rescue_text_of (ordinary_names plan.graph.dag)) marks

pub returns-in-Ok-rescue_text-clause-done : goal.returns-in-Ok-rescue_text-clause-done
returns-in-Ok-rescue_text-clause-done c =
    c.count_marks-done.ensures
    ∙ ap (count_by (λ mark. mark)) (c.deref.ensures.value ∙ marks-are c.args.core.now.plan c.args.core.now.past c.in-Ok.marks.items c.in-Ok.ensures.ok)
