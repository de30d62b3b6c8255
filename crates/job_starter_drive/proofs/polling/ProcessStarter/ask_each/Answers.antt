use Rattle.job_starter_drive.proofs.Counting.{ask-before}
use Rattle.job_starter_drive.proofs.polling.ProcessStarter.ask_each.Goals as goal

pub returns-in-Err-clause-err : goal.returns-in-Err-clause-err
returns-in-Err-clause-err g c = ask-before _ _ _ c.in-Err.fault c.loop-place.invariant.1 c.in-Err.ensures.err
