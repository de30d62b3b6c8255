use Rattle.std.proofs.Common.{refl}
use Rattle.job_starter_drive.specs.Causes.{no_memory_for_command, no_memory_for_child}
use Rattle.job_starter_drive.proofs.Counting.{start-counts}
use Rattle.job_starter_drive.proofs.rounds.hand_over.Goals as goal

pub returns-in_default-clause-refused : goal.returns-in_default-clause-refused
returns-in_default-clause-refused g c = λ old. no_memory_for_command refl

pub returns-clause-refused : goal.returns-clause-refused
returns-clause-refused g c = λ old. no_memory_for_child (start-counts _ _ c.in-Err.field-0 c.in-Err.ensures.err)
