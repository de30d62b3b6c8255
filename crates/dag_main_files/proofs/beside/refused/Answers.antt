use Rattle.dag_main_files.specs.Beside.{path_refused, refusing_had_no_memory}
use Rattle.dag_main_files.proofs.beside.refused.Goals as goal

pub returns-then-eq : goal.returns-then-eq
returns-then-eq c = record { path = refusing_had_no_memory }

pub returns-in-Ok : goal.returns-in-Ok
returns-in-Ok c = record { path = path_refused c.in-Ok.path c.in-Ok.ensures.ok }

pub returns-in-Err : goal.returns-in-Err
returns-in-Err c = record { path = refusing_had_no_memory }
