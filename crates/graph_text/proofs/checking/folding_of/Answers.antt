use Rattle.std.proofs.Common.{slice_index}
use Rattle.std.proofs.lemmas.Result.{IfOk-weaker}
use Rattle.status_report.specs.Text.{reported}
use Rattle.graph_text.proofs.Foldings.{alone-first, folding-alone}
use Rattle.graph_text.proofs.checking.folding_of.Goals as goal

pub returns : goal.returns
returns c =
    IfOk-weaker c.unfolded.result _ _
    (λ classes are. folding-alone c.args.plan.now (slice_index classes.items)
    (λ v low. alone-first classes.items c.drawn_nodes.result (reported c.args.plan.now) v are c.drawn_nodes.ensures.is low))
    c.unfolded.ensures
