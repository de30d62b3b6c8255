use Rattle.std.proofs.Common.{refl}
use Rattle.std.proofs.lemmas.Result.{err_from_is_err_and}
use Rattle.vars_macros.specs.Meaning.{scope_of}
use Rattle.run_plan_node.specs.Commands.{program_at, words_at, places_at, environment_at, job_command}
use Rattle.run_plan_node.proofs.Binds.{fails_bind}
use Rattle.run_plan_node.proofs.job.job_command.Goals as goal

pub returns-in_err-program : goal.returns-in_err-program
unfolding job_command
returns-in_err-program c =
    let p = err_from_is_err_and c.from_residual.result c.from_residual.ensures.1 in
    rw (p.1, p.2) (fails_bind c.in_err-program.field-0.0 (program_at c.args.folder.now (scope_of c.args.macros.now c.args.attempt)) _ c.in_err-program.ensures)

pub returns-in_err-words : goal.returns-in_err-words
unfolding job_command
returns-in_err-words c =
    let p = err_from_is_err_and c.from_residual-in_err-words.result c.from_residual-in_err-words.ensures.1 in
    rw (p.1, p.2, c.in_ok-program.ensures) (fails_bind c.in_err-words.field-0.0 (words_at (scope_of c.args.macros.now c.args.attempt)) _ c.in_err-words.ensures)

pub returns-in_err-places : goal.returns-in_err-places
unfolding job_command
returns-in_err-places c =
    let p = err_from_is_err_and c.from_residual-in_err-places.result c.from_residual-in_err-places.ensures.1 in
    rw (p.1, p.2, c.in_ok-program.ensures, c.in_ok-words.ensures) (fails_bind c.in_err-places.field-0.0 (places_at c.args.folder.now (scope_of c.args.macros.now c.args.attempt)) _ c.in_err-places.ensures)

pub returns-in_err-environment : goal.returns-in_err-environment
unfolding job_command
returns-in_err-environment c =
    let p = err_from_is_err_and c.from_residual-in_err-environment.result c.from_residual-in_err-environment.ensures.1 in
    rw (p.1, p.2, c.in_ok-program.ensures, c.in_ok-words.ensures, c.in_ok-places.ensures) (fails_bind c.in_err-environment.field-0.0 (environment_at (scope_of c.args.macros.now c.args.attempt)) _ c.in_err-environment.ensures)

pub returns : goal.returns
unfolding job_command
returns c = rw (c.in_ok-program.ensures, c.in_ok-words.ensures, c.in_ok-places.ensures, c.in_ok-environment.ensures) refl
