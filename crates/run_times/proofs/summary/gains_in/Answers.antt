use Rattle.std.proofs.Common.{List, sym, subst}
use Rattle.run_times.specs.declared.gains.Gain.{Gain}
use Rattle.run_times.specs.Gains.{AreGains, no_gains}
use Rattle.run_times.proofs.summary.gains_in.Goals as goal

pub returns-else-round : goal.returns-else-round
returns-else-round c =
    subst (λ (gains : List Gain). AreGains c.args.round.now.plan.now.graph c.args.round.now.runs.now c.args.round.now.limits.now gains) (sym c.new.ensures.items) no_gains
