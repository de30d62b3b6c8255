use Rattle.std.proofs.Common.{length, refl, arith}
use Rattle.dag_graph.proofs.Families.{parents_len, all_below, children_listed}
use Rattle.dag_graph.proofs.relatives.child_lists.Goals as goal

pub inverted-requires-clause-few : goal.inverted-requires-clause-few
inverted-requires-clause-few c = omega (arith, c.nodes.ensures.few, parents_len c.args.dag.now c.args.parents.now c.requires)

pub inverted-requires-clause-within : goal.inverted-requires-clause-within
inverted-requires-clause-within c = all_below (length c.args.dag.now.nodes) c.args.dag.now.edges c.args.parents.now c.requires

pub returns : goal.returns
returns c = children_listed c.args.dag.now c.args.parents.now c.args.parents.now c.in_ok-children.children.items c.requires refl c.in_ok-children.ensures
