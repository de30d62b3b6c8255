use Rattle.std.proofs.Common.{ℕ, ◌<◌, List, subst, sym}
use Rattle.std.specs.List.{All}
use Rattle.splices_flat.specs.Dag.{IsGroupBelow}
use Rattle.dag_graph.proofs.Groups.{side_below}
use Rattle.dag_graph.proofs.relatives.side_of.Goals as goal

pub numbers_of-requires-clause-within : goal.numbers_of-requires-clause-within
numbers_of-requires-clause-within c =
    let group = c.group-item.result in
    subst (λ (ns : List ℕ). All (λ n. n < c.args.count) ns) (sym c.ends.ensures)
    (side_below c.args.count c.args.side group (subst (IsGroupBelow c.args.count) (sym c.group-item.is) (c.requires.within c.loop-group.group-index group c.loop-group-test.true)))
