use Rattle.std.proofs.Common.{◌∙◌, ◌++◌, Ok, ap, codes}
use Rattle.std.proofs.lemmas.Result.{IfOk-weaker}
use Rattle.serde_json.specs.Data.{Data}
use Rattle.serde_json.specs.Written.{has_float, compact_text}
use Rattle.dag_main_inspect.proofs.StatusTexts.{audit-whole}
use Rattle.dag_main_inspect.proofs.audit_data.passed_json.Goals as goal

pub line_of-requires : goal.line_of-requires
line_of-requires c = ap has_float c.in_ok-value.ensures ∙ audit-whole c.args.path.now c.args.plan.now (Ok c.args.fates.now)

pub returns : goal.returns
returns c = IfOk-weaker c.line_of.result _ _ (λ text is. is ∙ ap (λ (d : Data). compact_text d ++ codes "\n") c.in_ok-value.ensures) c.line_of.ensures
