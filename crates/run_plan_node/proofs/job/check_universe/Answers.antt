use Rattle.std.proofs.Common.{codes}
use Rattle.std.proofs.lemmas.Result.{err_from_is_err_and}
use Rattle.vars_macros.specs.Meaning.{scope_of}
use Rattle.run_plan_node.specs.Commands.{universe_of, text_value_at, known_universe}
use Rattle.run_plan_node.proofs.Binds.{fails_bind, then_gives}
use Rattle.run_plan_node.proofs.job.check_universe.Goals as goal

pub returns-in_err-universe : goal.returns-in_err-universe
unfolding universe_of
returns-in_err-universe c =
    let p = err_from_is_err_and c.from_residual.result c.from_residual.ensures.1 in
    rw (p.1, p.2) (fails_bind c.in_err-universe.field-0.0 (text_value_at (scope_of c.args.macros.now c.args.attempt) (codes "universe")) (known_universe) c.in_err-universe.ensures)

pub returns : goal.returns
unfolding universe_of
returns c = then_gives (λ t. t) c.known_universe.result (text_value_at (scope_of c.args.macros.now c.args.attempt) (codes "universe")) (known_universe) c.in_ok-universe.universe c.in_ok-universe.ensures c.known_universe.ensures
