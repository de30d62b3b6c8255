use Rattle.std.specs.Prelude.{string_bytes, codes}
use Rattle.std.specs.Fmt.{decimal}
use Rattle.std.proofs.lemmas.Result.{on_ok_weaker}
use Rattle.report_page.specs.Heads.{total_text}
use Rattle.report_page.proofs.Joined.{joined}
use Rattle.report_page.proofs.heads.push_total.Goals as goal

pub returns : goal.returns
unfolding total_text
returns c = on_ok_weaker c.push_own-2.result (λ end. joined (string_bytes c.args.text.now) (string_bytes c.push_own.new.text) _ (codes "<ul>\n<li class=\"plain\"><b>") _ c.in_ok-push_own.ensures (joined (string_bytes c.push_own.new.text) (string_bytes c.push_number.new.text) _ (decimal c.args.count) _ c.in_ok-push_number.ensures end)) c.push_own-2.ensures
