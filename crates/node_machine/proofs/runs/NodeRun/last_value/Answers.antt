use Rattle.std.proofs.Common.{◌∙◌, ap}
use Rattle.node_machine.specs.NodeProgress.{NodeProgress}
use Rattle.node_machine.proofs.Behind.{value-behind}
use Rattle.node_machine.proofs.runs.NodeRun.last_value.Goals as goal

pub returns-clause-story : goal.returns-clause-story
returns-clause-story c = λ es s. ap (λ (v : NodeProgress). v.machine.value) c.self.view_is ∙ value-behind c.args.self.now es s
