use Rattle.std.proofs.Common.{◌∙◌, ◌++◌, ℕ, List, string_bytes, codes, ap}
use Rattle.std.proofs.lemmas.Result.{on_ok_weaker}
use Rattle.log_lines.specs.Words.{unquoted_of}
use Rattle.report_page.specs.Links.{link_to}
use Rattle.report_page.specs.Rows.{linked_text, code_text}
use Rattle.report_page.proofs.Joined.{joined}
use Rattle.report_page.proofs.rows.push_linked.Goals as goal

pub returns : goal.returns
unfolding linked_text
returns c = on_ok_weaker c.push_own-3.result (λ end. joined (string_bytes c.args.text.now) (string_bytes c.push_own.new.text) _ (codes "<a href=\"") _ c.in_ok-push_own.ensures (joined (string_bytes c.push_own.new.text) (string_bytes c.push_link.new.text) _ (link_to (unquoted_of c.args.shown.now)) _
    (c.in_ok-push_link.ensures ∙ ap (λ (path : List ℕ). string_bytes c.push_own.new.text ++ link_to path) c.requires) (joined (string_bytes c.push_link.new.text) (string_bytes c.push_own-2.new.text) _ (codes "\">") _ c.in_ok-push_own-2.ensures (joined (string_bytes c.push_own-2.new.text) (string_bytes c.push_code.new.text) _ (code_text c.args.shown.now) _ c.in_ok-push_code.ensures end)))) c.push_own-3.ensures
