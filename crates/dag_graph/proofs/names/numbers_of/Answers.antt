use Rattle.std.proofs.Common.{◌≡◌, ◌≤◌, List, length, map, sym, ap, subst, arith}
use Rattle.std.specs.HashMap.{get_by_text}
use Rattle.std.proofs.lemmas.List.{take_all}
use Rattle.splices_flat.specs.declared.flat.FlatNode.{FlatNode}
use Rattle.dag_graph.specs.Names.{GivesPlaces}
use Rattle.dag_graph.proofs.NamePlaces.{node_more, final_more}
use Rattle.dag_graph.proofs.names.numbers_of.Goals as goal

pub loop-number-preserved : goal.loop-number-preserved
loop-number-preserved c =
    node_more c.args.dag.now.nodes c.nodes-node-items.result.now c.node-item.result c.as_str.result.now c.loop-number.number (get_by_text c.loop-number.numbers) (get_by_text c.add.new.numbers) c.nodes-node-items.ensures.are c.loop-number-test.true c.node-item.is c.as_str.ensures c.loop-number.invariant c.in_ok-add.ensures

pub returns-in_ok-add-in-Some : goal.returns-in_ok-add-in-Some
returns-in_ok-add-in-Some c =
    let len : length c.nodes-node-items.result.now ≡ length c.args.dag.now.nodes = ap (λ (ns : List FlatNode). length ns) c.nodes-node-items.ensures.are in
    let over : length c.args.dag.now.nodes ≤ c.loop-number.number = omega (arith, len, c.loop-number-test.false) in
    let gives : GivesPlaces (get_by_text c.loop-number.numbers) (map (λ (n : FlatNode). n.name) c.args.dag.now.nodes) = subst (λ (ns : List FlatNode). GivesPlaces (get_by_text c.loop-number.numbers) (map (λ (n : FlatNode). n.name) ns)) (take_all c.loop-number.number c.args.dag.now.nodes over) c.loop-number.invariant in
    final_more c.args.dag.now c.in-Some.node.now c.as_str-in-Some.result.now (length c.nodes.result.now) (get_by_text c.loop-number.numbers) (get_by_text c.add-in-Some.new.numbers) (sym c.in-Some.ensures) (ap (λ (ns : List FlatNode). length ns) c.nodes.ensures.are) c.as_str-in-Some.ensures gives c.in_ok-add-in-Some.ensures
