use Rattle.std.proofs.Common.{◌∙◌, ap}
use Rattle.node_machine.specs.NodeProgress.{NodeProgress}
use Rattle.node_machine.specs.MachineState.{attempts_ended}
use Rattle.sched_core.proofs.Shown.{machine-attempts}
use Rattle.sched_core.proofs.scheduler.Core.attempts_ended.Goals as goal

pub returns : goal.returns
returns c =
    c.attempts_ended.ensures.is ∙ ap (λ (r : NodeProgress). attempts_ended r.machine) c.state_of.ensures.run
    ∙ machine-attempts c.args.self.now.plan c.args.self.now.past c.keeps_the_law.ensures c.args.node
