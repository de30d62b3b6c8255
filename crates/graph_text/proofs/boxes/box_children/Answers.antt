use Rattle.std.proofs.Common.{◌≡◌, ◌∙◌, ℕ, List, slice_index, subst}
use Rattle.std.proofs.lemmas.Result.{IfOk-weaker}
use Rattle.dag_graph.specs.Graph.{children_of}
use Rattle.graph_text.specs.Folding.{IsClassesOf}
use Rattle.graph_text.proofs.Foldings.{box-children-are}
use Rattle.graph_text.proofs.boxes.box_children.Goals as goal

pub returns : goal.returns
returns c =
    let plan = c.args.plan.now in
    let class_of = slice_index c.args.classes.now in
    let are : c.children.result.now ≡ children_of plan.graph.dag c.args.first = c.children.ensures ∙ (λ j. children_of (c.graph.ensures.is j).dag c.args.first) in
    IfOk-weaker c.classes_among.result _ _
    (λ children is. box-children-are plan class_of c.requires.folding c.graph.ensures.count c.args.first c.requires.within c.requires.first children
    (subst (λ (ns : List ℕ). IsClassesOf class_of ns children) are is))
    c.classes_among.ensures
