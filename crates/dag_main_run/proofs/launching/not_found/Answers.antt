use Rattle.std.proofs.Common.{Some, ap, sym, ◌∙◌}
use Rattle.dag_main_run.specs.Launching.{not_found, finding_had_no_memory}
use Rattle.dag_main_run.proofs.launching.not_found.Goals as goal

pub returns-in-Ok : goal.returns-in-Ok
returns-in-Ok c = λ given first. not_found c.in-Ok.name (first ∙ ap Some (sym c.in-Ok.ensures.ok))

pub returns-in-Err : goal.returns-in-Err
returns-in-Err c = λ given first. finding_had_no_memory
