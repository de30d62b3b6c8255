use Rattle.std.proofs.Common.{◌≡◌, ◌<◌, Bool, true, false, length, slice_index_or, sym, subst, arith}
use Rattle.std.specs.Prelude.{◌↔◌}
use Rattle.std.proofs.lemmas.List.{get_or_read}
use Rattle.std.proofs.lemmas.Bool.{false≢true}
use Rattle.dag_graph.specs.Graph.{IsAncestor}
use Rattle.dag_graph.proofs.Families.{lists_len}
use Rattle.dag_graph.proofs.Told.{Tells, tells}
use Rattle.dag_graph.proofs.Searches.{ancestor_below, descendant_below}
use Rattle.dag_graph.proofs.search.is_above.Goals as goal

pub returns-then-a-count : goal.returns-then-a-count
returns-then-a-count c =
    let told : Tells (length c.args.dag.now.nodes) c.args.dag.now.edges c.args.parents.now = tells (length c.args.dag.now.nodes) c.args.dag.now.edges c.args.parents.now c.edges.ensures.within c.requires in
    (λ t. absurd (false≢true t), λ is. let low = ancestor_below (length c.args.dag.now.nodes) c.args.dag.now.edges c.args.parents.now told c.args.a c.args.b is in absurd (omega (arith, low, told.len)))

pub returns-then-b-count : goal.returns-then-b-count
returns-then-b-count c =
    let told : Tells (length c.args.dag.now.nodes) c.args.dag.now.edges c.args.parents.now = tells (length c.args.dag.now.nodes) c.args.dag.now.edges c.args.parents.now c.edges.ensures.within c.requires in
    (λ t. absurd (false≢true t), λ is. let low = descendant_below (length c.args.dag.now.nodes) c.args.dag.now.edges c.args.parents.now told c.args.a c.args.b is in absurd (omega (arith, low, told.len)))

pub ancestors_of-requires-clause-node : goal.ancestors_of-requires-clause-node
ancestors_of-requires-clause-node c = omega (arith, lists_len (length c.args.dag.now.nodes) c.args.dag.now.edges c.args.parents.now c.requires)

pub index-requires : goal.index-requires
index-requires c = omega (arith, c.in_ok-marks.ensures.len, lists_len (length c.args.dag.now.nodes) c.args.dag.now.edges c.args.parents.now c.requires)

pub returns : goal.returns
returns c =
    let small : c.args.a < length c.in_ok-marks.marks.items = omega (arith, c.in_ok-marks.ensures.len, lists_len (length c.args.dag.now.nodes) c.args.dag.now.edges c.args.parents.now c.requires) in
    let value : c.index.result.now ≡ slice_index_or c.in_ok-marks.marks.items c.args.a false = get_or_read c.in_ok-marks.marks.items c.args.a c.index.result.now small c.index.ensures false in
    subst (λ (b : Bool). (b ≡ true) ↔ IsAncestor c.args.dag.now.edges c.args.a c.args.b) (sym value) (c.in_ok-marks.ensures.met c.args.a)
