use Rattle.report_answers.specs.Limits.{AreLimitRows}
use Rattle.report_answers.proofs.limits.rows_of_limits.Given as goal

abbrev pub invariant-loop-limit : goal.invariant-loop-limit
invariant-loop-limit l = AreLimitRows l.graph l.runs l.rows.items
