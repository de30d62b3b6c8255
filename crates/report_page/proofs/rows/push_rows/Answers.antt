use Rattle.std.proofs.Common.{◌≡◌, ◌+◌, suc, ◌++◌, string_bytes, ap, ◌∙◌, arith}
use Rattle.report_page.specs.Rows.{node_rows}
use Rattle.report_page.proofs.Places.{rows-more}
use Rattle.report_page.proofs.rows.push_rows.Goals as goal

pub loop-place-preserved : goal.loop-place-preserved
loop-place-preserved c =
    let n = c.loop-place.place in
    let one : suc n ≡ n + 1 = omega arith in
    rows-more (string_bytes c.args.text.now) _ _ c.args.rows.now n _ c.loop-place-test.true c.loop-place.invariant c.in_ok-push_row.ensures
    ∙ ap (λ m. string_bytes c.args.text.now ++ node_rows c.args.rows.now m) one
