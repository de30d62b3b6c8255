use Rattle.std.proofs.Common.{codes}
use Rattle.std.proofs.lemmas.Result.{err_from_is_err_and}
use Rattle.vars_macros.specs.Meaning.{scope_of}
use Rattle.run_plan_node.specs.Commands.{program_at, text_value_at, program_in}
use Rattle.run_plan_node.proofs.Binds.{fails_bind, then_gives}
use Rattle.run_plan_node.proofs.job.program_at.Goals as goal

pub returns-in_err-executable : goal.returns-in_err-executable
unfolding program_at
returns-in_err-executable c =
    let p = err_from_is_err_and c.from_residual.result c.from_residual.ensures.1 in
    rw (p.1, p.2) (fails_bind c.in_err-executable.field-0.0 (text_value_at (scope_of c.args.macros.now c.args.attempt) (codes "executable")) (program_in c.args.folder.now) c.in_err-executable.ensures)

pub returns : goal.returns
unfolding program_at
returns c = then_gives (λ t. t) c.program_in.result (text_value_at (scope_of c.args.macros.now c.args.attempt) (codes "executable")) (program_in c.args.folder.now) c.in_ok-executable.executable c.in_ok-executable.ensures c.program_in.ensures
