use Rattle.run_times.specs.Critical.{IsLatestOf, IsLastAmong}
use Rattle.run_times.proofs.critical.latest_among.Given as goal

abbrev pub invariant-loop-parent : goal.invariant-loop-parent
invariant-loop-parent l = IsLatestOf l.runs (λ place. IsLastAmong l.last l.parents l.parent-index place) l.latest
