use Rattle.std.proofs.Common.{codes}
use Rattle.std.proofs.lemmas.Result.{err_from_is_err_and}
use Rattle.vars_macros.specs.Meaning.{scope_of}
use Rattle.run_plan_node.specs.Commands.{words_at, text_value_at, words_in}
use Rattle.run_plan_node.proofs.Binds.{fails_bind, then_gives}
use Rattle.run_plan_node.proofs.job.words_at.Goals as goal

pub returns-in_err-arguments : goal.returns-in_err-arguments
unfolding words_at
returns-in_err-arguments c =
    let p = err_from_is_err_and c.from_residual.result c.from_residual.ensures.1 in
    rw (p.1, p.2) (fails_bind c.in_err-arguments.field-0.0 (text_value_at (scope_of c.args.macros.now c.args.attempt) (codes "arguments")) (words_in) c.in_err-arguments.ensures)

pub returns : goal.returns
unfolding words_at
returns c = then_gives (λ t. t) c.words_in.result (text_value_at (scope_of c.args.macros.now c.args.attempt) (codes "arguments")) (words_in) c.in_ok-arguments.arguments c.in_ok-arguments.ensures c.words_in.ensures
