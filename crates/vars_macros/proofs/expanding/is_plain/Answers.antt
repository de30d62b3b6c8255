use Rattle.std.proofs.Common.{arith, ◌∙◌, sym, ◌≤◌, length}
use Rattle.vars_macros.proofs.PlainTexts.{plain_expansion, without}
use Rattle.vars_macros.proofs.expanding.is_plain.Goals as goal

pub returns-then-text-le-LONGEST_TEXT : goal.returns-then-text-le-LONGEST_TEXT
returns-then-text-le-LONGEST_TEXT c = λ none scope vars.
    let fits : length c.args.text.now ≤ 65536 = omega (arith, c.if-text-le-LONGEST_TEXT.true) in
    plain_expansion scope vars c.args.text.now fits (sym c.contains.ensures.value ∙ without c.contains.result none)
