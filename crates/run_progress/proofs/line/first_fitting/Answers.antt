use Rattle.std.proofs.Common.{chars, arith, ap, ◌∙◌}
use Rattle.std.proofs.lemmas.Str.{chars-nil}
use Rattle.run_progress.specs.Columns.{columns}
use Rattle.run_progress.proofs.line.first_fitting.Goals as goal

pub returns-clause-fits : goal.returns-clause-fits
returns-clause-fits c =
    let none = ap (λ text. columns (chars text)) c.new.ensures.bytes ∙ ap columns chars-nil in
    omega (arith, none)
