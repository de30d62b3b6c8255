use Rattle.std.proofs.Common.{◌∙◌, ap}
use Rattle.run_plan.specs.Plan.{Plan, node_at}
use Rattle.sched_core.specs.States.{is_ready_by}
use Rattle.sched_core.proofs.Queues.{ready-shown}
use Rattle.sched_core.proofs.scheduler.Core.is_ready_by.Goals as goal

pub returns : goal.returns
returns c =
    c.is_ready_by.ensures
    ∙ ap (λ (p : Plan). is_ready_by (node_at p c.args.node).done c.aborted.result c.args.state.now.run c.args.state.now.parents_left) c.plan.ensures
    ∙ ready-shown c.args.self.now.plan c.args.self.now.past c.keeps_the_law.ensures c.args.node c.requires.node c.args.state.now c.requires.state c.aborted.result c.aborted.ensures
