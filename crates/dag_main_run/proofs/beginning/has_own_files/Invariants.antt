use Rattle.dag_main_run.proofs.OwnFiles.{AreOwnEndings}
use Rattle.dag_main_run.proofs.beginning.has_own_files.Given as goal

abbrev pub invariant-loop-ending : goal.invariant-loop-ending
invariant-loop-ending g l = AreOwnEndings l.ending-items
