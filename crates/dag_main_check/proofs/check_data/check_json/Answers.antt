use Rattle.std.proofs.Common.{◌∙◌, ◌++◌, ap, codes}
use Rattle.serde_json.specs.Written.{has_float, compact_text}
use Rattle.dag_main_check.proofs.check_data.check_json.Goals as goal

pub returns : goal.returns
returns c =
    let is = c.in_ok-value_of.ensures in
    c.in_ok-push_str.ensures.bytes ∙ ap (λ line. line ++ codes "\n") (c.in_ok-text.ensures.text (ap has_float is) ∙ ap compact_text is)
