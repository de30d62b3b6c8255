use Rattle.std.proofs.lemmas.Result.{IfOk-weaker}
use Rattle.report_page.proofs.texts.page_text.Goals as goal

pub returns : goal.returns
returns c = IfOk-weaker c.text_with.result _ _ (λ text is. record { graph = c.in_ok-graph.graph; timeline = c.in_ok-timeline.timeline; text_is = is }) c.text_with.ensures
