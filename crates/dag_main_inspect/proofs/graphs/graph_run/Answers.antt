use Rattle.std.proofs.Common.{sym, subst}
use Rattle.dag_main_check.proofs.Refusals.{handed-on, weaker}
use Rattle.dag_main_inspect.specs.Drawn.{IsJournalDrawnFault}
use Rattle.dag_main_inspect.proofs.Pictures.{drawn-memory, run-picture, run-warnings, records-refused}
use Rattle.dag_main_inspect.proofs.graphs.graph_run.Goals as goal

pub returns-clause-drawn : goal.returns-clause-drawn
returns-clause-drawn c =
    run-picture c.args.plan.now c.args.bytes.now c.args.shape c.args.records.now c.in_ok-core.core c.requires c.in_ok-core.ensures.plan c.in_ok-core.ensures.records
    c.keeps_the_law.ensures c.answer_for.result c.answer_for.ensures.text

pub returns-clause-warnings : goal.returns-clause-warnings
returns-clause-warnings c =
    run-warnings c.args.plan.now c.args.bytes.now c.in_ok-core.core c.in_ok-core.ensures.plan c.answer_for.result c.answer_for.ensures.warnings

pub returns-clause-refused : goal.returns-clause-refused
returns-clause-refused c = weaker _ c.answer_for.result c.answer_for.ensures.err (drawn-memory c.args.plan.now c.args.bytes.now)

pub returns-in_err-core-clause-refused : goal.returns-in_err-core-clause-refused
returns-in_err-core-clause-refused c =
    handed-on _ c.from_residual.result c.from_residual.ensures.1
    (λ fault same. subst (IsJournalDrawnFault c.args.plan.now c.args.bytes.now) (sym same)
    (records-refused c.args.plan.now c.args.bytes.now c.args.records.now c.requires c.in_err-core.field-0.0 c.in_err-core.ensures.refused))
