use Rattle.std.proofs.Common.{rules, reverse, refl, sym, ap, ◌∙◌}
use Rattle.job_starter_drive.proofs.Running.{no_items}
use Rattle.job_starter_drive.specs.Causes.{no_child_runs}
use Rattle.job_starter_drive.proofs.Counting.{ask-before, ask-waits}
use Rattle.job_starter_drive.proofs.polling.ProcessStarterStarter.wait_any.Goals as goal

pub returns-then-is_empty-clause-err : goal.returns-then-is_empty-clause-err
returns-then-is_empty-clause-err g c = no_child_runs (sym c.running.ensures ∙ ap reverse (no_items c.running.result.now (search rules))) refl

pub returns-in-Err-clause-err : goal.returns-in-Err-clause-err
returns-in-Err-clause-err g c = ask-waits _ _ _ c.in-Err.fault (ask-before _ _ _ c.in-Err.fault c.loop-round.invariant.1 c.in-Err.ensures.err)

pub returns-in-Err-wait-clause-err : goal.returns-in-Err-wait-clause-err
returns-in-Err-wait-clause-err g c = ask-waits _ _ _ c.in-Err-wait.fault (ask-before _ _ _ c.in-Err-wait.fault c.loop-round.invariant.1 c.in-Err-wait.ensures.err)
