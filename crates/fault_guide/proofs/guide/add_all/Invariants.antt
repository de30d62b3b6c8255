use Rattle.std.proofs.Common.{◌≡◌, ◌++◌, map, take}
use Rattle.fault_guide.specs.Codes.{code_of_fault, lent_codes}
use Rattle.fault_guide.proofs.guide.add_all.Given as goal

abbrev pub invariant-loop-fault : goal.invariant-loop-fault
invariant-loop-fault l = lent_codes l.all.items ≡ lent_codes l.initial.all.items ++ map code_of_fault (take l.fault-index l.part)
