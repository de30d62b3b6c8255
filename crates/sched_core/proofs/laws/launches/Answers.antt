use Rattle.sched_core.proofs.LivesLemmas.{launch-turn}
use Rattle.sched_core.proofs.RunCommands.{launch-command}
use Rattle.sched_core.proofs.Batches.{together}
use Rattle.sched_core.proofs.laws.launches.Goals as goal

pub returns-clause-turns : goal.returns-clause-turns
returns-clause-turns c plan table newer past key number lawful outcomes = launch-turn plan table newer past key number lawful outcomes

pub returns-clause-commands : goal.returns-clause-commands
returns-clause-commands c plan table newer past key number lawful outcomes sound plain =
    launch-command plan table newer past key number lawful outcomes sound plain

pub returns-clause-together : goal.returns-clause-together
returns-clause-together c plan others past key number lawful all = together plan others past key number lawful all
