use Rattle.std.proofs.Common.{◌∙◌, ◌≤◌, length, sym, ap, arith, unwrap_or, Option}
use Rattle.run_plan_node.specs.Node.{NodeSpec, no_node}
use Rattle.run_plan.proofs.PlanFacts.{parents-below, category-placed, node-past}
use Rattle.run_plan.proofs.plan.Plan.spec.Goals as goal

pub returns-then-index-len-clause-parents : goal.returns-then-index-len-clause-parents
returns-then-index-len-clause-parents c = rw (← c.self.view_is) (parents-below _ c.self.invariant.0 c.args.node)

pub returns-in-Some-clause-is : goal.returns-in-Some-clause-is
returns-in-Some-clause-is c =
    let le : length c.self.inside.nodes.items ≤ c.args.node = omega arith in
    rw (← c.self.view_is) (sym (node-past (record { nodes = c.self.inside.nodes.items; final_node = c.self.inside.final_node; graph = c.self.inside.graph; digest = c.self.inside.digest; always_post = c.self.inside.always_post }) c.args.node le ∙ ap (λ (o : Option NodeSpec). unwrap_or o no_node) c.in-Some.is))

pub returns-in-Some-clause-parents : goal.returns-in-Some-clause-parents
returns-in-Some-clause-parents c = rw (← c.self.view_is) (parents-below _ c.self.invariant.0 c.args.node)

pub returns-in-None-clause-is : goal.returns-in-None-clause-is
returns-in-None-clause-is c =
    let le : length c.self.inside.nodes.items ≤ c.args.node = omega arith in
    rw (← c.self.view_is) (c.self.invariant.1 ∙ sym (node-past (record { nodes = c.self.inside.nodes.items; final_node = c.self.inside.final_node; graph = c.self.inside.graph; digest = c.self.inside.digest; always_post = c.self.inside.always_post }) c.args.node le ∙ ap (λ (o : Option NodeSpec). unwrap_or o no_node) c.in-None.is))

pub returns-in-None-clause-parents : goal.returns-in-None-clause-parents
returns-in-None-clause-parents c = rw (← c.self.view_is) (parents-below _ c.self.invariant.0 c.args.node)

pub returns-then-index-len-clause-sound : goal.returns-then-index-len-clause-sound
returns-then-index-len-clause-sound c = rw (← c.self.view_is) (c.self.invariant.0.sound c.args.node)

pub returns-in-Some-clause-sound : goal.returns-in-Some-clause-sound
returns-in-Some-clause-sound c = rw (← c.self.view_is) (c.self.invariant.0.sound c.args.node)

pub returns-in-None-clause-sound : goal.returns-in-None-clause-sound
returns-in-None-clause-sound c = rw (← c.self.view_is) (c.self.invariant.0.sound c.args.node)

pub returns-then-index-len-clause-category : goal.returns-then-index-len-clause-category
returns-then-index-len-clause-category c = rw (← c.self.view_is) (category-placed _ c.self.invariant.0 c.args.node)

pub returns-in-Some-clause-category : goal.returns-in-Some-clause-category
returns-in-Some-clause-category c = rw (← c.self.view_is) (category-placed _ c.self.invariant.0 c.args.node)

pub returns-in-None-clause-category : goal.returns-in-None-clause-category
returns-in-None-clause-category c = rw (← c.self.view_is) (category-placed _ c.self.invariant.0 c.args.node)
