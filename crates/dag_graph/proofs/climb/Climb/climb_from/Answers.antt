use Rattle.std.proofs.Common.{◌≡◌, false, sym, ◌∙◌, subst}
use Rattle.dag_graph.specs.Climb.{IsClimb, is_entered}
use Rattle.dag_graph.proofs.Climbs.{begins}
use Rattle.dag_graph.proofs.climb.Climb.climb_from.Goals as goal

pub go_up-requires-clause-climb : goal.go_up-requires-clause-climb
go_up-requires-clause-climb c =
    let fresh : is_entered c.args.self.now c.args.start ≡ false = sym c.is_entered.ensures ∙ c.if-is_entered.false in
    subst (IsClimb c.args.parents.now) (sym c.in_ok-enter.ensures) (begins c.args.parents.now c.args.self.now c.args.start c.requires.climb c.requires.empty c.requires.start fresh)
