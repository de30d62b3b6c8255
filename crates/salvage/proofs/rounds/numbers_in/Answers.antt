use Rattle.std.proofs.Common.{rules, arith}
use Rattle.std.proofs.lemmas.Grind.{common_steps}
use Rattle.salvage.specs.Refused.{none_was_read, none_is_written}
use Rattle.salvage.proofs.rounds.numbers_in.Goals as goal

pub returns-then-peek-gt-LAST_NUMBER-clause-refused : goal.returns-then-peek-gt-LAST_NUMBER-clause-refused
returns-then-peek-gt-LAST_NUMBER-clause-refused c = none_was_read (omega arith)

pub returns-then-peek-lt1-clause-refused : goal.returns-then-peek-lt1-clause-refused
returns-then-peek-lt1-clause-refused c = none_is_written (omega arith) (first_of (search rules, grind (arith, common_steps)))
