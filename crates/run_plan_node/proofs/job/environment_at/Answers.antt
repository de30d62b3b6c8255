use Rattle.std.proofs.Common.{codes}
use Rattle.std.proofs.lemmas.Result.{err_from_is_err_and}
use Rattle.vars_macros.specs.Meaning.{scope_of}
use Rattle.run_plan_node.specs.Commands.{environment_at, text_value_at, environment_in}
use Rattle.run_plan_node.proofs.Binds.{fails_bind, then_gives}
use Rattle.run_plan_node.proofs.job.environment_at.Goals as goal

pub returns-in_err-environment : goal.returns-in_err-environment
unfolding environment_at
returns-in_err-environment c =
    let p = err_from_is_err_and c.from_residual.result c.from_residual.ensures.1 in
    rw (p.1, p.2) (fails_bind c.in_err-environment.field-0.0 (text_value_at (scope_of c.args.macros.now c.args.attempt) (codes "environment")) (environment_in) c.in_err-environment.ensures)

pub returns : goal.returns
unfolding environment_at
returns c = then_gives (λ t. t) c.environment_in.result (text_value_at (scope_of c.args.macros.now c.args.attempt) (codes "environment")) (environment_in) c.in_ok-environment.environment c.in_ok-environment.ensures c.environment_in.ensures
