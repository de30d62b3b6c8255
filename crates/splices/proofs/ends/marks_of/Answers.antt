use Rattle.std.proofs.Common.{◌∙◌, ◌+◌, take, sym, ap, subst, Bool, Vec, Global}
use Rattle.std.specs.Prelude.{vec_len}
use Rattle.splices_flat.specs.Places.{AreSideMarks, edges_of, nodes_on_side}
use Rattle.splices_flat.specs.declared.flat.Side.{Side}
use Rattle.splices.proofs.Groups.{some_if, none_if, marks_more, marks_same}
use Rattle.splices.proofs.ends.marks_of.Goals as goal
use Rattle.splices.proofs.ends.marks_of.Goals.{then-not-is_empty, else-not-is_empty}

pub loop-group-preserved : goal.loop-group-preserved
loop-group-preserved c =
    let inv = c.loop-group.invariant in
    let g = c.group-item.result in
    let groups = c.args.groups.now in
    let i = c.loop-group.group-index in
    let marks = c.loop-group.marks in
    elim c.if-not-is_empty.branch [
      | then-not-is_empty w ↦ (
        ap (λ (v : Vec Bool Global). vec_len v) w.marks-is ∙ w.mark_all.ensures.len ∙ inv.0,
        subst (λ (v : Vec Bool Global). AreSideMarks c.args.side c.args.first (edges_of (take (i + 1) groups)) v.items) (sym w.marks-is)
            (marks_more c.args.side c.args.first groups i g marks.items w.mark_all.new.marks.items w.ends-then-not-is_empty.result.now c.loop-group-test.true c.group-item.is
            (some_if c.ends.result.now _ c.is_empty.result c.is_empty.ensures w.if-not-is_empty.true (c.ends.ensures ∙ ap (λ (s : Side). nodes_on_side s g) c.other.ensures))
            w.ends-then-not-is_empty.ensures w.mark_all.ensures.same_len inv.1 w.mark_all.ensures.marked),
      )
      | else-not-is_empty w ↦ (
        ap (λ (v : Vec Bool Global). vec_len v) w.marks-is ∙ inv.0,
        subst (λ (v : Vec Bool Global). AreSideMarks c.args.side c.args.first (edges_of (take (i + 1) groups)) v.items) (sym w.marks-is)
            (marks_same c.args.side c.args.first groups i g marks.items c.loop-group-test.true c.group-item.is
            (none_if c.ends.result.now _ c.is_empty.result c.is_empty.ensures w.if-not-is_empty.false (c.ends.ensures ∙ ap (λ (s : Side). nodes_on_side s g) c.other.ensures)) inv.1),
      )
    ]
