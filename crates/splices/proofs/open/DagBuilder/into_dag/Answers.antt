use Rattle.std.proofs.Common.{◌≡◌, ◌∙◌, List, Option, map, sym, ap, subst, rules}
use Rattle.splices_flat.specs.Dag.{Dag, IsWellSized}
use Rattle.splices_flat.specs.Notices.{warning_of}
use Rattle.splices_flat.specs.Opened.{first_of}
use Rattle.splices_flat.specs.Places.{edges_of}
use Rattle.splices_flat.specs.declared.flat.CategoryLimit.{CategoryLimit}
use Rattle.splices_flat.specs.declared.flat.DagWarning.{DagWarning}
use Rattle.splices_flat.specs.declared.flat.FlatNode.{FlatNode}
use Rattle.splices.proofs.open.DagBuilder.into_dag.Goals as goal
use Rattle.splices.proofs.open.DagBuilder.into_dag.Goals.{then-is_empty, else-is_empty}

-- a DAG with the top file, the nodes and the edges of the draft
abbrev with_parts : goal.Joined-is_empty → Option FlatNode → List CategoryLimit → List DagWarning → Dag
with_parts c final limits warnings = record {
  top = c.args.top;
  nodes = c.args.self.nodes.items;
  final_node = final;
  edges = edges_of c.args.self.edges.items;
  categories = limits;
  warnings = warnings;
}

-- its other parts are those of the draft
parts_are : (c : goal.Joined-is_empty) → with_parts c c.if-is_empty.final_node c.in_ok-categories.categories.items c.in_ok-categories.warnings.items
    ≡ with_parts c (first_of c.args.self.finals.items) c.args.self.warned.limits (map warning_of c.args.self.warned.notices)
parts_are c =
    let limits = c.in_ok-categories.categories.items in
    let warnings = c.in_ok-categories.warnings.items in
    let final_is : c.if-is_empty.final_node ≡ first_of c.args.self.finals.items =
    elim c.if-is_empty.branch [ then-is_empty w ↦ search rules | else-is_empty w ↦ search rules ] in
    ap (λ (f : Option FlatNode). with_parts c f limits warnings) final_is
    ∙ ap (λ (ls : List CategoryLimit). with_parts c (first_of c.args.self.finals.items) ls warnings) c.in_ok-categories.ensures.limits
    ∙ ap (λ (ws : List DagWarning). with_parts c (first_of c.args.self.finals.items) c.args.self.warned.limits ws) c.in_ok-categories.ensures.warnings

pub new-requires-clause-within : goal.new-requires-clause-within
new-requires-clause-within c = subst IsWellSized (sym (parts_are c)) c.requires.within

pub new-requires-clause-below : goal.new-requires-clause-below
new-requires-clause-below c = c.requires.below

pub returns : goal.returns
returns c = c.new.ensures ∙ parts_are c.before.before
