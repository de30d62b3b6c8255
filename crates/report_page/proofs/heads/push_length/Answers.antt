use Rattle.std.specs.Prelude.{string_bytes, codes}
use Rattle.std.proofs.lemmas.Result.{on_ok_weaker}
use Rattle.report_page.specs.Heads.{length_text}
use Rattle.report_page.specs.Times.{duration_text}
use Rattle.report_page.proofs.Joined.{joined}
use Rattle.report_page.proofs.heads.push_length.Goals as goal

pub returns : goal.returns
unfolding length_text
returns c = on_ok_weaker c.push_own-2.result (λ end. joined (string_bytes c.args.text.now) (string_bytes c.push_own.new.text) _ (codes "<p>By its log it took <b>") _ c.in_ok-push_own.ensures (joined (string_bytes c.push_own.new.text) (string_bytes c.push_duration.new.text) _ (duration_text c.args.milliseconds) _ c.in_ok-push_duration.ensures end)) c.push_own-2.ensures
