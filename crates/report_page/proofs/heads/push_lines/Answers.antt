use Rattle.std.specs.Prelude.{string_bytes}
use Rattle.std.proofs.lemmas.Result.{on_ok_weaker}
use Rattle.report_page.specs.Heads.{heading_text, lines_text}
use Rattle.report_page.proofs.Joined.{joined}
use Rattle.report_page.proofs.heads.push_lines.Goals as goal

pub returns : goal.returns
unfolding lines_text
returns c = on_ok_weaker c.push_preformatted.result (λ end. joined (string_bytes c.args.text.now) (string_bytes c.push_heading.new.text) _ (heading_text c.args.heading.now) _ c.in_ok-push_heading.ensures end) c.push_preformatted.ensures
