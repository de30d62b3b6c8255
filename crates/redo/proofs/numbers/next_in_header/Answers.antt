use Rattle.std.proofs.Common.{refl, rules, arith}
use Rattle.std.proofs.lemmas.Grind.{common_steps}
use Rattle.redo.proofs.numbers.next_in_header.Goals as goal

pub returns-then-next-lt1-clause-refused : goal.returns-then-next-lt1-clause-refused
returns-then-next-lt1-clause-refused c = (first_of (search rules, grind (arith, common_steps)), refl)
