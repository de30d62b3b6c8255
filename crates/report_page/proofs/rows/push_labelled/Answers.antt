use Rattle.std.specs.Prelude.{string_bytes, codes}
use Rattle.std.proofs.lemmas.Result.{on_ok_weaker}
use Rattle.report_page.specs.Rows.{labelled_text, path_text}
use Rattle.report_page.proofs.Joined.{joined}
use Rattle.report_page.proofs.rows.push_labelled.Goals as goal

pub returns : goal.returns
unfolding labelled_text
returns c = on_ok_weaker c.push_own-3.result (λ end. joined (string_bytes c.args.text.now) (string_bytes c.push_own.new.text) _ (codes "<p>") _ c.in_ok-push_own.ensures (joined (string_bytes c.push_own.new.text) (string_bytes c.push_own-2.new.text) _ (c.args.label.now) _ c.in_ok-push_own-2.ensures (joined (string_bytes c.push_own-2.new.text) (string_bytes c.push_path.new.text) _ (path_text c.args.path.now) _ c.in_ok-push_path.ensures end))) c.push_own-3.ensures
