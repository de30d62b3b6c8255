use Rattle.std.proofs.Common.{sym, ◌∙◌, subst}
use Rattle.dag_graph.specs.Graph.{IsCycle}
use Rattle.dag_graph.proofs.Rounds.{cycle_begun}
use Rattle.dag_graph.proofs.cycle.cycle_of.Goals as goal

pub returns : goal.returns
returns c = λ edges closed. subst (IsCycle edges) (sym c.in_ok-cycle.ensures)
    (cycle_begun edges c.args.path.now c.args.parent c.place_of.result c.least_place.result c.as_slice-nodes.result.now c.place_of.ensures (c.as_slice-nodes.ensures.value ∙ c.in_ok-round.ensures) c.least_place.ensures.within c.least_place.ensures.least closed)
