use Rattle.std.proofs.Common.{◌≡◌, ◌∙◌, sym, ap, ℕ, List, subst}
use Rattle.std.specs.Prelude.{IfOk}
use Rattle.splices_flat.specs.Places.{edges_of, free_of, AreSideMarks}
use Rattle.splices.proofs.Marks.{unmarked_is}
use Rattle.splices.proofs.ends.free_nodes.Goals as goal

pub returns : goal.returns
returns c =
    let marks = c.as_slice.result.now in
    let edges = edges_of c.args.groups.now in
    let are : AreSideMarks c.args.side c.args.first edges marks = subst (AreSideMarks c.args.side c.args.first edges) (sym c.as_slice.ensures.value) c.in_ok-marks.ensures.marked in
    subst (λ (ns : List ℕ). IfOk c.unmarked.result (λ n. n ≡ ns))
    (unmarked_is c.args.side c.args.first edges marks are ∙ ap (λ (n : ℕ). free_of c.args.side c.args.first n edges) (c.as_slice.ensures.len ∙ c.in_ok-marks.ensures.len))
    c.unmarked.ensures
