use Rattle.std.specs.Prelude.{string_bytes, codes}
use Rattle.std.proofs.lemmas.Result.{on_ok_weaker}
use Rattle.report_page.specs.Escaped.{escaped_text}
use Rattle.report_page.specs.Heads.{begin_text}
use Rattle.report_page.proofs.Joined.{joined}
use Rattle.report_page.proofs.heads.push_begin.Goals as goal

pub returns : goal.returns
unfolding begin_text
returns c = on_ok_weaker c.push_own-2.result (λ end. joined (string_bytes c.args.text.now) (string_bytes c.push_own.new.text) _ (codes "<p>It began at <b>") _ c.in_ok-push_own.ensures (joined (string_bytes c.push_own.new.text) (string_bytes c.push_escaped.new.text) _ (escaped_text c.args.time.now) _ c.in_ok-push_escaped.ensures end)) c.push_own-2.ensures
