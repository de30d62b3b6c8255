use Rattle.sched_core.specs.Commands.{command_of_launch, plain_command}
use Rattle.sched_core.specs.EveryRun.{key_of}
use Rattle.sched_core.proofs.EveryRuns.{same-handed}
use Rattle.recovery.proofs.Compared.{compared, handed-in, plain-in}
use Rattle.recovery.proofs.laws.two_runs.Goals as goal

pub returns-clause-fates : goal.returns-clause-fates
returns-clause-fates c run run' node node' is is' agree = (compared run run' node node' is is' agree).0

pub returns-clause-marks : goal.returns-clause-marks
returns-clause-marks c run run' node node' is is' agree = (compared run run' node node' is is' agree).1

pub returns-clause-commands : goal.returns-clause-commands
returns-clause-commands c run run' node node' is is' agree =
    (compared run run' node node' is is' agree.0).2 (plain_command run.plan) (plain_command run'.plan) agree.1.same

pub returns-clause-spawned : goal.returns-clause-spawned
returns-clause-spawned c run run' node node' is is' agree sound sound' life life' among among' attempt phase command command' has has' =
    same-handed run.plan run.table run.last.held run'.plan run'.table run'.last.held (command_of_launch run.plan) (command_of_launch run'.plan) node node' agree.0
    (plain_command run.plan) (plain_command run'.plan) agree.1.same (plain-in run is node sound agree.1.plain) (plain-in run' is' node' sound' agree.1.plain')
    attempt phase command command'
    (handed-in run is life among (key_of node attempt phase) command has)
    (handed-in run' is' life' among' (key_of node' attempt phase) command' has')
