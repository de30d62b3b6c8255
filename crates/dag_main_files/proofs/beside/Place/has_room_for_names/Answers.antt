use Rattle.std.proofs.Common.{rules}
use Rattle.dag_main_files.specs.Beside.{too_long, naming_had_no_memory}
use Rattle.dag_main_files.proofs.beside.Place.has_room_for_names.Goals as goal

pub returns-in_default-clause-refused : goal.returns-in_default-clause-refused
returns-in_default-clause-refused c = naming_had_no_memory

pub returns-clause-refused : goal.returns-clause-refused
returns-clause-refused c = naming_had_no_memory

pub returns-in-Ok-from_str-clause-refused : goal.returns-in-Ok-from_str-clause-refused
returns-in-Ok-from_str-clause-refused c =
    too_long c.in-Ok-from_str.name c.name_length.result (search rules) (search rules) (search rules)
