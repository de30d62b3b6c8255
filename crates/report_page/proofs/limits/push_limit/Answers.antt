use Rattle.std.proofs.Common.{◌++◌, ◌∙◌, ap, string_bytes, codes}
use Rattle.std.proofs.lemmas.Result.{on_ok_weaker}
use Rattle.report_page.specs.declared.values.Look.{Look}
use Rattle.report_page.specs.Escaped.{escaped_text}
use Rattle.report_page.specs.States.{look_class}
use Rattle.report_page.specs.Limits.{category_text, limit_item, limit_use_text, look_of_limit}
use Rattle.report_page.proofs.Joined.{joined}
use Rattle.report_page.proofs.limits.push_limit.Goals as goal

pub returns : goal.returns
unfolding limit_item
returns c = on_ok_weaker c.push_own-4.result (λ end. joined (string_bytes c.args.text.now) (string_bytes c.push_own.new.text) _ (codes "<li class=\"") _ c.in_ok-push_own.ensures (joined (string_bytes c.push_own.new.text) (string_bytes c.push_class.new.text) _ (look_class (look_of_limit c.args.limit.now)) _ (c.in_ok-push_class.ensures ∙ ap (λ (l : Look). string_bytes c.push_own.new.text ++ look_class l) c.look_of.ensures) (joined (string_bytes c.push_class.new.text) (string_bytes c.push_own-2.new.text) _ (codes "\"><b>") _ c.in_ok-push_own-2.ensures (joined (string_bytes c.push_own-2.new.text) (string_bytes c.push_use.new.text) _ (limit_use_text c.args.limit.now) _ c.in_ok-push_use.ensures (joined (string_bytes c.push_use.new.text) (string_bytes c.push_own-3.new.text) _ (codes "</b> ") _ c.in_ok-push_own-3.ensures (joined (string_bytes c.push_own-3.new.text) (string_bytes c.push_escaped.new.text) _ (escaped_text c.args.limit.now.what.now) _ c.in_ok-push_escaped.ensures (joined (string_bytes c.push_escaped.new.text) (string_bytes c.push_category.new.text) _ (category_text c.args.limit.now.category) _ c.in_ok-push_category.ensures end))))))) c.push_own-4.ensures
