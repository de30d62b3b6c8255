use Rattle.std.specs.Prelude.{string_bytes, codes}
use Rattle.std.proofs.lemmas.Result.{on_ok_weaker}
use Rattle.report_page.specs.Escaped.{escaped_text}
use Rattle.report_page.specs.Heads.{began_text, look_of_round, round_text, title_text, took_text}
use Rattle.report_page.specs.States.{look_class}
use Rattle.report_page.proofs.Joined.{joined}
use Rattle.report_page.proofs.heads.push_title.Goals as goal

pub returns : goal.returns
unfolding title_text
returns c = on_ok_weaker c.push_reloads.result (λ end. joined (string_bytes c.args.text.now) (string_bytes c.push_own.new.text) _ (codes "<h1>") _ c.in_ok-push_own.ensures (joined (string_bytes c.push_own.new.text) (string_bytes c.push_escaped.new.text) _ (escaped_text c.args.page.now.path.now) _ c.in_ok-push_escaped.ensures (joined (string_bytes c.push_escaped.new.text) (string_bytes c.push_own-2.new.text) _ (codes "</h1>\n<p id=\"round\" class=\"") _ c.in_ok-push_own-2.ensures (joined (string_bytes c.push_own-2.new.text) (string_bytes c.push_round_class.new.text) _ (look_class (look_of_round c.args.page.now.round)) _ c.in_ok-push_round_class.ensures (joined (string_bytes c.push_round_class.new.text) (string_bytes c.push_own-3.new.text) _ (codes "\">") _ c.in_ok-push_own-3.ensures (joined (string_bytes c.push_own-3.new.text) (string_bytes c.push_round.new.text) _ (round_text c.args.page.now.round) _ c.in_ok-push_round.ensures (joined (string_bytes c.push_round.new.text) (string_bytes c.push_own-4.new.text) _ (codes "</p>\n") _ c.in_ok-push_own-4.ensures (joined (string_bytes c.push_own-4.new.text) (string_bytes c.push_began.new.text) _ (began_text c.args.page.now.began) _ c.in_ok-push_began.ensures (joined (string_bytes c.push_began.new.text) (string_bytes c.push_took.new.text) _ (took_text c.args.page.now.took) _ c.in_ok-push_took.ensures end))))))))) c.push_reloads.ensures
