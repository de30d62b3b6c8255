use Rattle.std.proofs.Common.{◌≡◌, take}
use Rattle.fault_guide.specs.Codes.{lent_codes}
use Rattle.fault_guide.proofs.Coded.{codes_of_tables}
use Rattle.fault_guide.proofs.guide.faults.Given as goal

abbrev pub invariant-loop-part : goal.invariant-loop-part
invariant-loop-part l = lent_codes l.all.items ≡ codes_of_tables (take l.part-index l.part-items)
