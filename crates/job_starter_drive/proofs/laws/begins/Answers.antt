use Rattle.std.proofs.Common.{refl}
use Rattle.job_starter_drive.proofs.laws.begins.Goals as goal

pub returns : goal.returns
returns c plan past call_log none = record { same = none; children = refl }
