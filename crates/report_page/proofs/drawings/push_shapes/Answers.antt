use Rattle.std.proofs.Common.{◌≡◌, ◌+◌, suc, ◌++◌, string_bytes, ap, ◌∙◌, arith}
use Rattle.report_page.specs.Drawings.{shapes_text}
use Rattle.report_page.proofs.Places.{shapes-more}
use Rattle.report_page.proofs.drawings.push_shapes.Goals as goal

pub loop-place-preserved : goal.loop-place-preserved
loop-place-preserved c =
    let n = c.loop-place.place in
    let one : suc n ≡ n + 1 = omega arith in
    shapes-more (string_bytes c.args.text.now) _ _ c.args.shapes.now n _ c.loop-place-test.true c.loop-place.invariant c.in_ok-push_shape.ensures
    ∙ ap (λ m. string_bytes c.args.text.now ++ shapes_text c.args.shapes.now m) one
