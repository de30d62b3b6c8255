use Rattle.std.proofs.Common.{ap, ◌∙◌, arith}
use Rattle.run_plan_node.specs.Node.{NodeSpec}
use Rattle.failure_report.proofs.Listed.{node-or-final}
use Rattle.failure_report.proofs.same.name_of.Goals as goal

pub returns : goal.returns
returns c =
    c.name.ensures ∙ ap (λ (n : NodeSpec). n.name) (c.spec.ensures.is ∙ node-or-final c.args.plan.now c.args.node _ (omega arith))
