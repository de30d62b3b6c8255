use Rattle.std.proofs.Common.{arith}
use Rattle.rescue_file.proofs.Digits.{not_three}
use Rattle.rescue_file.proofs.names.number_of_digits.Goals as goal

pub returns-in_default : goal.returns-in_default
returns-in_default c = not_three c.args.digits.now (λ three. absurd (omega (arith, three, c.in_default.len_below)))

pub returns-in_default-2 : goal.returns-in_default-2
returns-in_default-2 c = not_three c.args.digits.now (λ three. absurd (omega (arith, three, c.in_default.len_at_least)))
