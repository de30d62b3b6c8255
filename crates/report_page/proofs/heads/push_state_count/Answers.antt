use Rattle.std.specs.Prelude.{string_bytes, codes}
use Rattle.std.specs.Fmt.{decimal}
use Rattle.std.proofs.lemmas.Result.{on_ok_weaker}
use Rattle.report_page.specs.Heads.{count_text}
use Rattle.report_page.specs.States.{look_class, look_of, state_word}
use Rattle.report_page.proofs.Joined.{joined}
use Rattle.report_page.proofs.heads.push_state_count.Goals as goal

pub returns : goal.returns
unfolding count_text
returns c = on_ok_weaker c.push_own-4.result (λ end. joined (string_bytes c.args.text.now) (string_bytes c.push_own.new.text) _ (codes "<li class=\"") _ c.in_ok-push_own.ensures (joined (string_bytes c.push_own.new.text) (string_bytes c.push_state_class.new.text) _ (look_class (look_of c.args.state)) _ c.in_ok-push_state_class.ensures (joined (string_bytes c.push_state_class.new.text) (string_bytes c.push_own-2.new.text) _ (codes "\"><b>") _ c.in_ok-push_own-2.ensures (joined (string_bytes c.push_own-2.new.text) (string_bytes c.push_number.new.text) _ (decimal c.args.count) _ c.in_ok-push_number.ensures (joined (string_bytes c.push_number.new.text) (string_bytes c.push_own-3.new.text) _ (codes "</b> ") _ c.in_ok-push_own-3.ensures (joined (string_bytes c.push_own-3.new.text) (string_bytes c.push_word.new.text) _ (state_word c.args.state) _ c.in_ok-push_word.ensures end)))))) c.push_own-4.ensures
