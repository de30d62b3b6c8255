use Rattle.std.proofs.Common.{◌∙◌, ◌||◌, ◌&&◌, is_none, ap}
use Rattle.run_plan.specs.Plan.{Plan, node_at}
use Rattle.sched_core.proofs.Shown.{machine-done}
use Rattle.sched_core.proofs.scheduler.Core.is_done_by.Goals as goal

pub returns : goal.returns
returns c =
    c.is_done_at.ensures
    ∙ (λ j. ((c.spec.ensures.is ∙ ap (λ (p : Plan). node_at p c.args.node) c.plan.ensures) j).done || (is_none (c.requires.state.run j).machine.phase && (c.requires.state.run j).machine.good))
    ∙ machine-done c.args.self.now.plan c.args.self.now.past c.keeps_the_law.ensures c.args.node
