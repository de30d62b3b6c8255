use Rattle.std.proofs.Common.{◌∙◌, ap}
use Rattle.node_machine.specs.NodeProgress.{NodeProgress}
use Rattle.sched_core.proofs.Shown.{machine-value}
use Rattle.sched_core.proofs.scheduler.Core.last_value.Goals as goal

pub returns : goal.returns
returns c =
    c.last_value.ensures.is ∙ ap (λ (r : NodeProgress). r.machine.value) c.state_of.ensures.run
    ∙ machine-value c.args.self.now.plan c.args.self.now.past c.keeps_the_law.ensures c.args.node
