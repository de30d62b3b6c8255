use Rattle.std.proofs.Common.{ℕ, List, length, sym, subst, arith}
use Rattle.dag_graph.specs.Graph.{IsOrderOf}
use Rattle.dag_graph.specs.Cycles.{IsClosedBy}
use Rattle.dag_graph.proofs.Families.{lists_len, all_below}
use Rattle.dag_graph.proofs.Told.{Tells, tells}
use Rattle.dag_graph.proofs.Orders.{is_order, closed_by}
use Rattle.dag_graph.proofs.order.order_of.Goals as goal

pub climb-requires-clause-few : goal.climb-requires-clause-few
climb-requires-clause-few c = omega (arith, lists_len (length c.args.dag.now.nodes) c.args.dag.now.edges c.args.parents.now c.requires, c.nodes.ensures.few)

pub climb-requires-clause-below : goal.climb-requires-clause-below
climb-requires-clause-below c = all_below (length c.args.dag.now.nodes) c.args.dag.now.edges c.args.parents.now c.requires

pub cycle_fault-requires : goal.cycle_fault-requires
cycle_fault-requires c =
    let told : Tells (length c.args.dag.now.nodes) c.args.dag.now.edges c.args.parents.now = tells (length c.args.dag.now.nodes) c.args.dag.now.edges c.args.parents.now c.edges.ensures.within c.requires in
    let closed = rw c.in-Some.is at c.in_ok-climb-2.ensures in
    subst (λ (path : List ℕ). IsClosedBy c.args.dag.now.edges path c.in-Some.parent) (sym c.path.ensures) (closed_by (length c.args.dag.now.nodes) c.args.dag.now.edges c.args.parents.now _ c.in-Some.parent told closed)

pub returns-in-None-clause-order : goal.returns-in-None-clause-order
returns-in-None-clause-order c =
    let told : Tells (length c.args.dag.now.nodes) c.args.dag.now.edges c.args.parents.now = tells (length c.args.dag.now.nodes) c.args.dag.now.edges c.args.parents.now c.edges.ensures.within c.requires in
    let settled = rw c.in-None.is at c.in_ok-climb-2.ensures in
    subst (IsOrderOf c.args.dag.now) (sym c.into_order.ensures) (is_order c.args.dag.now c.args.parents.now _ told settled)
