use Rattle.std.proofs.Common.{◌≡◌, length, slice_index}
use Rattle.report_answers.specs.Rows.{HasRows}
use Rattle.report_answers.proofs.rows.rows_of.Given as goal

abbrev pub invariant-loop-node : goal.invariant-loop-node
invariant-loop-node l = HasRows l.core.plan l.core.past (slice_index l.classes.items) l.rows.items × (length l.rows.items ≡ l.node)
