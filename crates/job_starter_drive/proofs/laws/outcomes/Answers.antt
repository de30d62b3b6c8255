use Rattle.job_starter_drive.proofs.Outcomes.{drives-outcomes}
use Rattle.job_starter_drive.proofs.laws.outcomes.Goals as goal

pub returns : goal.returns
returns g c limits plan starter table past call_log after last tells steps has =
    drives-outcomes limits plan (g.S.Starter.may_return starter) table tells past call_log after last steps has
