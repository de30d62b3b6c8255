use Rattle.run_plan.proofs.PlanFacts.{planned-count, ranked}
use Rattle.run_plan.proofs.plan.Plan.graph.Goals as goal

pub returns-clause-made : goal.returns-clause-made
returns-clause-made c = rw (← c.self.view_is) c.self.invariant.0

pub returns-clause-count : goal.returns-clause-count
returns-clause-count c = rw (← c.self.view_is) (planned-count _ c.self.invariant.0)

pub returns-clause-ranked : goal.returns-clause-ranked
returns-clause-ranked c = rw (← c.self.view_is) (ranked _ c.self.invariant.0 c.order.ensures.parents_first)
