use Rattle.std.specs.Prelude.{string_bytes}
use Rattle.std.proofs.lemmas.Result.{on_ok_weaker}
use Rattle.report_page.specs.Pages.{first_text, page_head, refresh_text, window_text}
use Rattle.report_page.proofs.Joined.{joined}
use Rattle.report_page.proofs.texts.push_head.Goals as goal

pub returns : goal.returns
unfolding page_head
returns c = on_ok_weaker c.push_styled.result (λ end. joined (string_bytes c.args.text.now) (string_bytes c.push_first.new.text) _ (first_text) _ c.in_ok-push_first.ensures (joined (string_bytes c.push_first.new.text) (string_bytes c.push_refresh.new.text) _ (refresh_text c.args.page.now.reloads) _ c.in_ok-push_refresh.ensures (joined (string_bytes c.push_refresh.new.text) (string_bytes c.push_window.new.text) _ (window_text c.args.page.now.path.now) _ c.in_ok-push_window.ensures end))) c.push_styled.ensures
