use Rattle.std.proofs.Common.{slice_index, sym, ◌∙◌}
use Rattle.graph_text.proofs.Foldings.{like-first}
use Rattle.graph_text.proofs.checking.is_like_first.Goals as goal

pub returns-then-is_same_kind : goal.returns-then-is_same_kind
returns-then-is_same_kind c = λ same.
    like-first c.args.plan.now (slice_index c.args.classes.now) c.args.arounds.now c.args.node c.class_at-first.result c.index-arounds-node.result c.index-arounds-first.result
    c.requires.arounds c.requires.within c.if-first-node.false c.class_at-first.ensures (sym c.class_at.ensures ∙ c.if-class_at-first.false)
    (c.is_same_kind.ensures c.if-is_same_kind.true) c.index-arounds-node.is c.index-arounds-first.is (c.is_same_around.ensures same)
