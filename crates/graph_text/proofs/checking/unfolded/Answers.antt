use Rattle.std.proofs.Common.{refl, ◌∙◌, sym, map-id, arith}
use Rattle.std.proofs.lemmas.Result.{IfOk-weaker}
use Rattle.std.proofs.lemmas.Iterator.{YieldsList-from_range}
use Rattle.std.proofs.lemmas.Iterator.Consumers.{map_from_collect}
use Rattle.graph_text.proofs.checking.unfolded.Goals as goal

pub returns : goal.returns
returns c =
    IfOk-weaker c.collect.result _ _ (λ classes is. sym (map-id classes.items) ∙ is)
    (map_from_collect _ c.collect.ensures.ran (YieldsList-from_range 0 c.args.count c.args.count refl (omega arith)))
