use Rattle.throttles.proofs.Within.{stays}
use Rattle.throttles.proofs.laws.limits_hold.Goals as goal

pub returns-clause-start : goal.returns-clause-start
returns-clause-start c = stays
