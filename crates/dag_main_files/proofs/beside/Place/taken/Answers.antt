use Rattle.std.proofs.Common.{◌∙◌}
use Rattle.dag_main_files.specs.Beside.{path_refused, refusing_had_no_memory}
use Rattle.dag_main_files.proofs.beside.Place.taken.Goals as goal

pub returns-in_default : goal.returns-in_default
returns-in_default c = refusing_had_no_memory

pub returns-in-Ok-from_str : goal.returns-in-Ok-from_str
returns-in-Ok-from_str c = path_refused c.in-Ok-from_str.path (c.in-Ok-from_str.ensures.ok ∙ c.as_str.ensures ∙ c.in-Ok.ensures)

pub returns : goal.returns
returns c = refusing_had_no_memory
