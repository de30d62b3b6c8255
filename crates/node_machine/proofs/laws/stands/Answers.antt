use Rattle.node_machine.proofs.Standing.{steps-next, steps-good, steps-value, steps-ended}
use Rattle.node_machine.proofs.laws.stands.Goals as goal

pub returns-clause-next : goal.returns-clause-next
returns-clause-next c course es history = steps-next course es history

pub returns-clause-good : goal.returns-clause-good
returns-clause-good c course es history = steps-good course es history

pub returns-clause-value : goal.returns-clause-value
returns-clause-value c course es history = steps-value course es history

pub returns-clause-attempts : goal.returns-clause-attempts
returns-clause-attempts c course es history = steps-ended course es history
