use Rattle.std.proofs.Common.{arith}
use Rattle.rescue_file.proofs.Digits.{no_hundreds, no_tens, no_units, no_zero, is_three}
use Rattle.rescue_file.proofs.names.number_of_three.Goals as goal

pub returns-in_err-value_of : goal.returns-in_err-value_of
returns-in_err-value_of c = rw c.from_residual.ensures (no_hundreds c.args.hundreds c.args.tens c.args.units c.in_err-value_of.ensures)

pub returns-in_err-value_of-2 : goal.returns-in_err-value_of-2
returns-in_err-value_of-2 c = rw c.from_residual-in_err-value_of-2.ensures (no_tens c.args.hundreds c.args.tens c.args.units c.in_err-value_of-2.ensures)

pub returns-in_err-number : goal.returns-in_err-number
returns-in_err-number c = rw c.from_residual-in_err-number.ensures (no_units c.args.hundreds c.args.tens c.args.units c.in_err-number.ensures)

pub returns-then-number-eq0 : goal.returns-then-number-eq0
returns-then-number-eq0 c =
    no_zero c.args.hundreds c.args.tens c.args.units c.in_ok-value_of.field-0 c.in_ok-value_of-2.field-0 c.in_ok-number.field-0
    c.in_ok-value_of.ensures.1 c.in_ok-value_of-2.ensures.1 c.in_ok-number.ensures.1 c.if-number-eq0.true

pub returns : goal.returns
returns c =
    is_three c.args.hundreds c.args.tens c.args.units c.in_ok-value_of.field-0 c.in_ok-value_of-2.field-0 c.in_ok-number.field-0
    c.in_ok-value_of.ensures.1 c.in_ok-value_of-2.ensures.1 c.in_ok-number.ensures.1
    c.in_ok-value_of.ensures.0 c.in_ok-value_of-2.ensures.0 c.in_ok-number.ensures.0 (grind (arith, c.if-number-eq0.false))
