use Rattle.std.proofs.Common.{◌≡◌, ◌∙◌, List, map, ap}
use Rattle.splices_flat.specs.Dag.{Dag}
use Rattle.splices_flat.specs.declared.flat.FlatNode.{FlatNode}
use Rattle.dag_graph.specs.Graph.{Network}
use Rattle.run_plan.specs.Plan.{Plan}
use Rattle.rescue_file.specs.Written.{ordinary_names, marked}
use Rattle.recovery_manager.proofs.Marks.{marks-are}
use Rattle.salvage.proofs.carried.done_names.Goals as goal

pub returns-clause-names : goal.returns-clause-names
returns-clause-names c =
    let core = c.args.core.now in
    let nodes : c.nodes-nodes.result.now ≡ core.plan.graph.dag.nodes =
    c.nodes-nodes.ensures.are
    ∙ ap (λ (d : Dag). d.nodes) (c.flat.ensures ∙ ap (λ (n : Network). n.dag) (c.graph.ensures.is ∙ ap (λ (p : Plan). p.graph) c.plan.ensures)) in
    c.in_ok-marked_names.ensures
    ∙ ap (λ (ns : List FlatNode). marked (map (λ (node : FlatNode). node.name) ns) c.deref.result.now) nodes
    ∙ ap (marked (ordinary_names core.plan.graph.dag)) (c.deref.ensures.value ∙ marks-are core.plan core.past c.in-Ok.marks.items c.in-Ok.ensures.ok)
