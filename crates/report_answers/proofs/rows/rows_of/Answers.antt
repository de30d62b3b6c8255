use Rattle.std.proofs.Common.{ℕ, List, length, slice_index, ap, sym, subst}
use Rattle.report_answers.specs.Rows.{IsRowOf, HasRows, no_row}
use Rattle.report_answers.proofs.Answering.{next-row}
use Rattle.report_answers.proofs.rows.rows_of.Goals as goal

pub loop-node-init : goal.loop-node-init
loop-node-init c =
    (subst (HasRows c.args.core.now.plan c.args.core.now.past (slice_index c.in_ok-classes.classes.items)) (sym c.new-rows.ensures.items) no_row, ap length c.new-rows.ensures.items)

pub loop-node-preserved : goal.loop-node-preserved
loop-node-preserved c =
    next-row c.args.core.now.plan c.args.core.now.past (slice_index c.in_ok-classes.classes.items) c.loop-node.rows.items _ c.row_of.result c.loop-node.node
    c.loop-node.invariant.0 c.loop-node.invariant.1
    (subst (λ (classes : List ℕ). IsRowOf c.args.core.now.plan c.args.core.now.past (slice_index classes) c.loop-node.node c.row_of.result) c.deref.ensures.value c.row_of.ensures)
    c.in_ok-push.ensures.items
