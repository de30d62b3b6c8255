use Rattle.std.specs.Prelude.{string_bytes, codes}
use Rattle.std.proofs.lemmas.Result.{on_ok_weaker}
use Rattle.report_page.specs.Rows.{command_text, code_text}
use Rattle.report_page.proofs.Joined.{joined}
use Rattle.report_page.proofs.rows.push_command.Goals as goal

pub returns : goal.returns
unfolding command_text
returns c = on_ok_weaker c.push_own-2.result (λ end. joined (string_bytes c.args.text.now) (string_bytes c.push_own.new.text) _ (codes "<p>") _ c.in_ok-push_own.ensures (joined (string_bytes c.push_own.new.text) (string_bytes c.push_code.new.text) _ (code_text c.args.command.now) _ c.in_ok-push_code.ensures end)) c.push_own-2.ensures
