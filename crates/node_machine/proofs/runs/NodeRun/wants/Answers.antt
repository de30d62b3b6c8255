use Rattle.std.proofs.Common.{◌∙◌, ap}
use Rattle.node_machine.specs.NodeProgress.{NodeProgress}
use Rattle.node_machine.specs.MachineState.{next_of}
use Rattle.node_machine.proofs.Behind.{next-behind}
use Rattle.node_machine.proofs.runs.NodeRun.wants.Goals as goal

pub returns-clause-next : goal.returns-clause-next
returns-clause-next c = λ es s.
    c.next_at.ensures ∙ ap (λ (v : NodeProgress). next_of v.machine v.machine.phase) c.self.view_is ∙ next-behind c.args.self.now es s
