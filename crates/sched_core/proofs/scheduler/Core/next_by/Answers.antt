use Rattle.std.proofs.Common.{◌∙◌, None, ap, if◌then◌else◌}
use Rattle.node_machine.specs.MachineState.{next_of}
use Rattle.run_plan.specs.Plan.{Plan, node_at}
use Rattle.sched_core.specs.Run.{key_at}
use Rattle.sched_core.proofs.Shown.{machine-next}
use Rattle.sched_core.proofs.scheduler.Core.next_by.Goals as goal

pub returns : goal.returns
returns c =
    c.next_at.ensures
    ∙ (λ j. if ((c.spec.ensures.is ∙ ap (λ (p : Plan). node_at p c.args.node) c.plan.ensures) j).done then None else key_at c.args.node (next_of (c.requires.state.run j).machine (c.requires.state.run j).machine.phase))
    ∙ machine-next c.args.self.now.plan c.args.self.now.past c.keeps_the_law.ensures c.args.node
