use Rattle.std.proofs.Common.{ℕ, ◌++◌, None, codes}
use Rattle.rescue_file.specs.Numbered.{three_digits}
use Rattle.rescue_file.proofs.Digits.{behind, not_behind}
use Rattle.rescue_file.proofs.names.number_in.Goals as goal

pub returns-in_err-strip_prefix : goal.returns-in_err-strip_prefix
returns-in_err-strip_prefix c =
    rw c.from_residual.ensures (not_behind c.args.top.now c.args.name.now (λ (n : ℕ). codes ".rescue" ++ three_digits n) c.in_err-strip_prefix.ensures.cases)

pub returns-in_err-strip_prefix-2 : goal.returns-in_err-strip_prefix-2
returns-in_err-strip_prefix-2 c =
    rw c.from_residual-in_err-strip_prefix-2.ensures
    (behind c.args.top.now c.args.name.now (λ (n : ℕ). codes ".rescue" ++ three_digits n) c.in_ok-strip_prefix.field-0 None c.in_ok-strip_prefix.ensures.cases
    (not_behind (codes ".rescue") c.in_ok-strip_prefix.field-0.now three_digits c.in_err-strip_prefix-2.ensures.cases))

pub returns : goal.returns
returns c =
    behind c.args.top.now c.args.name.now (λ (n : ℕ). codes ".rescue" ++ three_digits n) c.in_ok-strip_prefix.field-0 c.number_of_digits.result c.in_ok-strip_prefix.ensures.cases
    (behind (codes ".rescue") c.in_ok-strip_prefix.field-0.now three_digits c.in_ok-strip_prefix-2.field-0 c.number_of_digits.result c.in_ok-strip_prefix-2.ensures.cases c.number_of_digits.ensures)
