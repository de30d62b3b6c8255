use Rattle.std.proofs.Common.{◌∙◌, ap}
use Rattle.node_machine.specs.NodeProgress.{NodeProgress}
use Rattle.node_machine.specs.MachineState.{state_by}
use Rattle.node_machine.proofs.Behind.{state-behind}
use Rattle.node_machine.proofs.runs.NodeRun.state.Goals as goal

pub returns-clause-story : goal.returns-clause-story
returns-clause-story c = λ es s. c.state_at.ensures ∙ ap (λ (v : NodeProgress). state_by v.machine) c.self.view_is ∙ state-behind c.args.self.now es s
