use Rattle.dag_main_check.proofs.Refusals.{weaker}
use Rattle.dag_main_inspect.specs.Drawn.{no_records}
use Rattle.dag_main_inspect.proofs.Pictures.{others, other-picture, drawn-memory}
use Rattle.std.proofs.Common.{sym, ◌∙◌}
use Rattle.dag_main_inspect.proofs.graphs.graph_unless.Goals as goal

pub returns-then-tells_of_others-clause-drawn : goal.returns-then-tells_of_others-clause-drawn
returns-then-tells_of_others-clause-drawn c =
    other-picture c.args.plan.now c.args.bytes.now c.args.shape (others c.args.plan.now c.args.bytes.now _ c.requires (sym c.tells_of_others.ensures ∙ c.if-tells_of_others.true))
    c.answer_for.result c.answer_for.ensures.text

pub returns-then-tells_of_others-clause-refused : goal.returns-then-tells_of_others-clause-refused
returns-then-tells_of_others-clause-refused c = weaker _ c.answer_for.result c.answer_for.ensures.err (drawn-memory c.args.plan.now c.args.bytes.now)

pub returns-clause-refused : goal.returns-clause-refused
returns-clause-refused c = no_records _ (sym c.tells_of_others.ensures ∙ c.if-tells_of_others.false) c.requires
