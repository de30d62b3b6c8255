use Rattle.std.proofs.Common.{rules, arith}
use Rattle.std.proofs.lemmas.Grind.{common_steps}
use Rattle.dag_main_files.specs.Beside.{not_there}
use Rattle.dag_main_files.specs.Folder.{held_no_such_file}
use Rattle.dag_main_files.proofs.rounds.round_of.Goals as goal

pub returns-then-number-eq0-clause-refused : goal.returns-then-number-eq0-clause-refused
returns-then-number-eq0-clause-refused g c = not_there _ c.in-Some.is

pub returns-then-number-eq0-clause-refused_held : goal.returns-then-number-eq0-clause-refused_held
returns-then-number-eq0-clause-refused_held g c = λ honest. held_no_such_file _ c.in-Some.is (first_of (search rules, grind (arith, common_steps)))
