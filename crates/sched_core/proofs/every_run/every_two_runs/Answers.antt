use Rattle.sched_core.specs.EveryRun.{key_of}
use Rattle.sched_core.proofs.EveryRuns.{handed-over, same-handed, runs-agree}
use Rattle.sched_core.proofs.every_run.every_two_runs.Goals as goal

pub returns-clause-fates : goal.returns-clause-fates
returns-clause-fates g c run run' over over' rank rank' ranked ranked' node node' ordinary ordinary' agree =
    runs-agree run run' over over' rank rank' ranked ranked' node node' ordinary ordinary' agree

pub returns-clause-commands : goal.returns-clause-commands
returns-clause-commands g c run run' over over' node node' agree plain plain' same are are' life among life' among' attempt phase handed handed' has has' =
    same-handed run.plan run.table run.last.held run'.plan run'.table run'.last.held run.way.command run'.way.command node node' agree plain plain' same are are' attempt phase handed handed'
    (handed-over run over life among (key_of node attempt phase) handed has)
    (handed-over run' over' life' among' (key_of node' attempt phase) handed' has')
