use Rattle.sched_core.proofs.Finished.{lawful_part, state-done}
use Rattle.sched_core.specs.Commands.{plain_command}
use Rattle.sched_core.proofs.EveryRuns.{plan-plain, run-fates}
use Rattle.std.proofs.Common.{sym}
use Rattle.recovery_manager.proofs.Chains.{any-run, journal_run, lives-left, handed-by}
use Rattle.recovery.proofs.RecordLives.{lives-by-records, lives-grow}
use Rattle.recovery.proofs.laws.lives.Goals as goal

pub returns-clause-by_records : goal.returns-clause-by_records
returns-clause-by_records c plan lives are = lives-by-records plan lives are

pub returns-clause-grows : goal.returns-clause-grows
returns-clause-grows c plan last before lives earlier is_there = lives-grow plan before last lives earlier is_there.0 is_there.1 is_there.2

pub returns-clause-left : goal.returns-clause-left
returns-clause-left c plan last before past are reads = lives-left plan last before past are reads

pub returns-clause-fates : goal.returns-clause-fates
returns-clause-fates c plan table last before are run = run-fates (journal_run plan table last before) (any-run plan table last before are run)

pub returns-clause-marks : goal.returns-clause-marks
returns-clause-marks c plan last node = sym (state-done plan last.held node)

pub returns-clause-commands : goal.returns-clause-commands
returns-clause-commands c plan table last before are run life is_there key command has sound plain =
    (handed-by plan table last before are run life is_there key command has).read (plain_command plan)
    (plan-plain plan last.held (lawful_part plan last.held run.finished) key.node sound plain)
