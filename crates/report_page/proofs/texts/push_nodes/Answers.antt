use Rattle.std.specs.Prelude.{string_bytes, codes}
use Rattle.std.proofs.lemmas.Result.{on_ok_weaker}
use Rattle.report_page.specs.Drawings.{drawing_text}
use Rattle.report_page.specs.Limits.{limits_shown}
use Rattle.report_page.specs.Pages.{nodes_text, timeline_text}
use Rattle.report_page.proofs.Joined.{joined}
use Rattle.report_page.proofs.texts.push_nodes.Goals as goal

pub returns : goal.returns
unfolding nodes_text
returns c = on_ok_weaker c.push_table.result (λ end. joined (string_bytes c.args.text.now) (string_bytes c.push_own.new.text) _ (codes "<h2>Graph</h2>\n") _ c.in_ok-push_own.ensures (joined (string_bytes c.push_own.new.text) (string_bytes c.push_drawing.new.text) _ (drawing_text (codes "graph") c.args.graph.now) _ c.in_ok-push_drawing.ensures (joined (string_bytes c.push_drawing.new.text) (string_bytes c.push_own-2.new.text) _ (codes "<h2>Timeline</h2>\n") _ c.in_ok-push_own-2.ensures (joined (string_bytes c.push_own-2.new.text) (string_bytes c.push_timeline.new.text) _ (timeline_text c.args.page.now.phases.now c.args.timeline.now) _ c.in_ok-push_timeline.ensures (joined (string_bytes c.push_timeline.new.text) (string_bytes c.push_limits.new.text) _ (limits_shown c.args.page.now.limits.now) _ c.in_ok-push_limits.ensures (joined (string_bytes c.push_limits.new.text) (string_bytes c.push_own-3.new.text) _ (codes "<h2>Nodes</h2>\n") _ c.in_ok-push_own-3.ensures end)))))) c.push_table.ensures
