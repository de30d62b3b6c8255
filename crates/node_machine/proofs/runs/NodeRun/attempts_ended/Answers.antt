use Rattle.std.proofs.Common.{◌∙◌, ap}
use Rattle.node_machine.specs.NodeProgress.{NodeProgress}
use Rattle.node_machine.specs.MachineState.{attempts_ended}
use Rattle.node_machine.proofs.Behind.{attempts-behind}
use Rattle.node_machine.proofs.runs.NodeRun.attempts_ended.Goals as goal

pub returns-clause-story : goal.returns-clause-story
returns-clause-story c = λ es s. c.ended_at.ensures ∙ ap (λ (v : NodeProgress). attempts_ended v.machine) c.self.view_is ∙ attempts-behind c.args.self.now es s
