use Rattle.std.proofs.Common.{◌≡◌, ◌≤◌, length, subst, arith}
use Rattle.splices_flat.specs.Dag.{Dag}
use Rattle.run_plan.proofs.PlanFacts.{planned-count}
use Rattle.run_plan.proofs.plan.Plan.count.Goals as goal

few : (c : goal.After-len) → length c.self.inside.nodes.items ≤ 65536
few c =
    let same : length c.self.inside.nodes.items ≡ length c.self.inside.graph.dag.nodes = planned-count _ c.self.invariant.0 in
    let most : length c.self.inside.graph.dag.nodes ≤ 65536 = subst (λ (d : Dag). length d.nodes ≤ 65536) c.flat.ensures c.nodes.ensures.few in
    omega arith

pub overflow_cast-result : goal.overflow_cast-result
overflow_cast-result c = let most : length c.self.inside.nodes.items ≤ 65536 = few c in omega (arith, c.len.ensures)

pub returns-clause-room : goal.returns-clause-room
returns-clause-room c = let most : length c.self.inside.nodes.items ≤ 65536 = few c in omega (arith, c.len.ensures)
