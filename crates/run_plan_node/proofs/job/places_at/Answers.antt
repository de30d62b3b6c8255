use Rattle.std.proofs.Common.{Ok, ap, sym, codes}
use Rattle.std.proofs.lemmas.Result.{err_from_is_err_and}
use Rattle.vars_macros.specs.Meaning.{scope_of}
use Rattle.run_plan_node.specs.declared.job.Places.{Places}
use Rattle.run_plan_node.specs.Commands.{text_value_at, places_at}
use Rattle.run_plan_node.proofs.Binds.{fails_bind}
use Rattle.run_plan_node.proofs.job.places_at.Goals as goal

pub returns-in_err-input : goal.returns-in_err-input
unfolding places_at
returns-in_err-input c =
    let p = err_from_is_err_and c.from_residual.result c.from_residual.ensures.1 in
    rw (p.1, p.2) (fails_bind c.in_err-input.field-0.0 (text_value_at (scope_of c.args.macros.now c.args.attempt) (codes "input")) _ c.in_err-input.ensures)

pub returns-in_err-output : goal.returns-in_err-output
unfolding places_at
returns-in_err-output c =
    let p = err_from_is_err_and c.from_residual-in_err-output.result c.from_residual-in_err-output.ensures.1 in
    rw (p.1, p.2, c.in_ok-input.ensures) (fails_bind c.in_err-output.field-0.0 (text_value_at (scope_of c.args.macros.now c.args.attempt) (codes "output")) _ c.in_err-output.ensures)

pub returns-in_err-error : goal.returns-in_err-error
unfolding places_at
returns-in_err-error c =
    let p = err_from_is_err_and c.from_residual-in_err-error.result c.from_residual-in_err-error.ensures.1 in
    rw (p.1, p.2, c.in_ok-input.ensures, c.in_ok-output.ensures) (fails_bind c.in_err-error.field-0.0 (text_value_at (scope_of c.args.macros.now c.args.attempt) (codes "error")) _ c.in_err-error.ensures)

pub returns-in_err-dir : goal.returns-in_err-dir
unfolding places_at
returns-in_err-dir c =
    let p = err_from_is_err_and c.from_residual-in_err-dir.result c.from_residual-in_err-dir.ensures.1 in
    rw (p.1, p.2, c.in_ok-input.ensures, c.in_ok-output.ensures, c.in_ok-error.ensures) (fails_bind c.in_err-dir.field-0.0 (text_value_at (scope_of c.args.macros.now c.args.attempt) (codes "initialdir")) _ c.in_err-dir.ensures)

pub returns : goal.returns
unfolding places_at
returns c = rw (c.in_ok-input.ensures, c.in_ok-output.ensures, c.in_ok-error.ensures, c.in_ok-dir.ensures) (ap (λ (p : Places). Ok p) (sym c.in_ok-places_in.ensures))
