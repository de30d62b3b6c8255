use Rattle.std.proofs.Common.{sym}
use Rattle.sched_core.proofs.Finished.{state-done}
use Rattle.sched_core.proofs.LivesLemmas.{table-final}
use Rattle.sched_core.proofs.EveryRuns.{handed-over, life-older, lives-left, run-fates}
use Rattle.sched_core.proofs.every_run.every_run.Goals as goal

pub returns-clause-fates : goal.returns-clause-fates
returns-clause-fates g c run over = run-fates run over

pub returns-clause-marks : goal.returns-clause-marks
returns-clause-marks g c run node = sym (state-done run.plan run.last.held node)

pub returns-clause-final_node : goal.returns-clause-final_node
returns-clause-final_node g c run over some = table-final run.plan run.table run.last.held over.ended.finished over.ended.outcomes some

pub returns-clause-commands : goal.returns-clause-commands
returns-clause-commands g c run over life is_there plain key handed has are = (handed-over run over life is_there key handed has).read plain are

pub returns-clause-grows : goal.returns-clause-grows
returns-clause-grows g c plan way last before are life is_there = life-older plan way last before are life is_there.0 is_there.1 is_there.2

pub returns-clause-left : goal.returns-clause-left
returns-clause-left g c plan way last before are kept leaves = lives-left plan way last before are kept leaves
