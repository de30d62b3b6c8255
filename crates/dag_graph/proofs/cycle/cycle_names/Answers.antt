use Rattle.std.proofs.Common.{ℕ, List, ◌<◌, length, map, sym, ap, ◌∙◌, subst}
use Rattle.std.specs.List.{All}
use Rattle.dag_graph.specs.Graph.{name_of}
use Rattle.dag_graph.proofs.Rounds.{cycle_below}
use Rattle.dag_graph.proofs.cycle.cycle_names.Goals as goal

pub names_of-requires : goal.names_of-requires
names_of-requires c =
    let nodes : List ℕ = c.in_ok-cycle.cycle.items in
    subst (λ (xs : List ℕ). All (λ n. n < length c.args.dag.now.nodes) xs) (sym c.as_slice.ensures.value)
    (cycle_below (length c.args.dag.now.nodes) c.args.dag.now.edges c.in_ok-cycle.cycle.items c.edges.ensures.within (c.in_ok-cycle.ensures c.args.dag.now.edges c.requires))

pub returns : goal.returns
returns c = record {
  nodes = c.in_ok-cycle.cycle.items;
  is_cycle = c.in_ok-cycle.ensures c.args.dag.now.edges c.requires;
  are_names = c.in_ok-names.ensures ∙ ap (map (name_of c.args.dag.now)) c.as_slice.ensures.value;
}
