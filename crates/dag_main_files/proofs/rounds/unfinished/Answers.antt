use Rattle.std.proofs.Common.{refl, rules, arith}
use Rattle.std.proofs.lemmas.Grind.{common_steps}
use Rattle.dag_main_files.specs.Beside.{no_such_number}
use Rattle.dag_main_files.specs.Folder.{bad_used, bad_next}
use Rattle.dag_main_files.proofs.rounds.unfinished.Goals as goal

pub returns-then-peek-gt-LAST_NUMBER-clause-refused : goal.returns-then-peek-gt-LAST_NUMBER-clause-refused
returns-then-peek-gt-LAST_NUMBER-clause-refused c = λ top. no_such_number _ refl (first_of (search rules, grind (arith, common_steps)))

pub returns-then-peek-lt1-clause-refused : goal.returns-then-peek-lt1-clause-refused
returns-then-peek-lt1-clause-refused c = λ top. no_such_number _ refl (first_of (search rules, grind (arith, common_steps)))

pub returns-then-peek-gt-LAST_NUMBER-clause-bad : goal.returns-then-peek-gt-LAST_NUMBER-clause-bad
returns-then-peek-gt-LAST_NUMBER-clause-bad c = bad_used (first_of (search rules, grind (arith, common_steps)))

pub returns-then-peek-lt1-clause-bad : goal.returns-then-peek-lt1-clause-bad
returns-then-peek-lt1-clause-bad c = bad_next (first_of (search rules, grind (arith, common_steps)))
