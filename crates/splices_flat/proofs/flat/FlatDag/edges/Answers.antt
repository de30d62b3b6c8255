use Rattle.std.proofs.Common.{List, length, subst, sym}
use Rattle.std.specs.List.{All}
use Rattle.splices_flat.specs.declared.flat.EdgeGroup.{EdgeGroup}
use Rattle.splices_flat.specs.Dag.{Dag, IsGroupBelow}
use Rattle.splices_flat.proofs.flat.FlatDag.edges.Goals as goal

pub returns-clause-below : goal.returns-clause-below
returns-clause-below c =
    subst (λ (gs : List EdgeGroup). All (IsGroupBelow (length c.args.self.now.nodes)) gs) (sym c.as_slice.ensures.value)
    (subst (λ (d : Dag). All (IsGroupBelow (length d.nodes)) c.self.inside.edges.items) c.self.view_is c.self.invariant.1)
