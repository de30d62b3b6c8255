use Rattle.node_machine.proofs.Beginnings.{history-begins}
use Rattle.node_machine.proofs.laws.histories.Goals as goal

pub returns : goal.returns
returns c course es history = history-begins course es history
