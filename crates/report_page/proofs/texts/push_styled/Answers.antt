use Rattle.std.specs.Prelude.{string_bytes, codes}
use Rattle.std.proofs.lemmas.Result.{on_ok_weaker}
use Rattle.report_page.specs.Pages.{styled_text}
use Rattle.report_page.specs.Style.{style_text}
use Rattle.report_page.proofs.Joined.{joined}
use Rattle.report_page.proofs.texts.push_styled.Goals as goal

pub returns : goal.returns
unfolding styled_text
returns c = on_ok_weaker c.push_own-2.result (λ end. joined (string_bytes c.args.text.now) (string_bytes c.push_own.new.text) _ (codes "<style>\n") _ c.in_ok-push_own.ensures (joined (string_bytes c.push_own.new.text) (string_bytes c.push_style.new.text) _ (style_text) _ c.in_ok-push_style.ensures end)) c.push_own-2.ensures
