use Rattle.std.proofs.Common.{◌≡◌, ◌≤◌, ℕ, List, length, ap, arith}
use Rattle.std.specs.List.{sum_by}
use Rattle.dag_graph.proofs.Families.{parents_few}
use Rattle.dag_graph.proofs.graph.Graph.edge_count.Goals as goal

pub total_length-requires : goal.total_length-requires
total_length-requires c =
    let few : length c.self.inside.flat.nodes ≤ 65536 = c.nodes.ensures.few in
    let most = parents_few c.self.inside.flat c.self.inside.relatives.parents.items c.self.invariant.parents_are few in
    let same : sum_by length c.as_slice.result.now ≡ sum_by length c.self.inside.relatives.parents.items = ap (λ (ls : List (List ℕ)). sum_by length ls) c.as_slice.ensures.value in
    omega (arith, most, same)
