use Rattle.std.proofs.Common.{◌∙◌, ◌++◌, ap, codes}
use Rattle.std.proofs.lemmas.Result.{IfOk-weaker}
use Rattle.serde_json.specs.Data.{Data}
use Rattle.serde_json.specs.Written.{has_float, compact_text}
use Rattle.dag_main_inspect.proofs.StatusTexts.{status-whole}
use Rattle.dag_main_inspect.proofs.status_data.status_json.Goals as goal

pub line_of-requires : goal.line_of-requires
line_of-requires c = ap has_float c.in_ok-value.ensures ∙ status-whole c.args.path.now c.args.core.now.plan c.args.core.now.past

pub returns : goal.returns
returns c = IfOk-weaker c.line_of.result _ _ (λ text is. is ∙ ap (λ (d : Data). compact_text d ++ codes "\n") c.in_ok-value.ensures) c.line_of.ensures
