use Rattle.std.proofs.Common.{[], ◌∷◌}
use Rattle.std.proofs.lemmas.List.{reverse-reverse, reverse-append}
use Rattle.sched_core.proofs.laws.writing.Goals as goal

pub returns-clause-newest : goal.returns-clause-newest
returns-clause-newest c newest past = reverse-append (newest ∷ []) past

pub returns-clause-again : goal.returns-clause-again
returns-clause-again c past = reverse-reverse past
