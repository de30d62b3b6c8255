use Rattle.std.proofs.Common.{◌++◌, arith, sym, ap, ◌∙◌}
use Rattle.std.proofs.lemmas.Grind.{common_steps}
use Rattle.run_progress.proofs.Painting.{painted-front, painted-other, split-front}
use Rattle.run_progress.proofs.line.painted.Goals as goal

pub returns-in-Some : goal.returns-in-Some
returns-in-Some c =
    let front = c.as_str.ensures.value ∙ c.in_ok-front.ensures.ok in
    let cases = c.in-Some.ensures.cases in
    let split = split-front c.args.line.now c.as_str.result.now _ c.in-Some.rest.now cases.0 front cases.1.1 cases.2 in
    let shown = painted-front c.args.line.now c.args.failed c.in-Some.rest.now (omega (arith, c.if-failed-eq0.false)) split in
    grind (arith, common_steps, shown, c.in_ok-front.ensures.ok)

pub returns : goal.returns
returns c =
    let front = c.as_str.ensures.value ∙ c.in_ok-front.ensures.ok in
    let cases = c.in-None.ensures.cases in
    let shown = painted-other c.args.line.now c.args.failed (λ rest split. cases rest (split ∙ ap (λ text. text ++ rest) (sym front))) in
    grind (arith, common_steps, shown)
