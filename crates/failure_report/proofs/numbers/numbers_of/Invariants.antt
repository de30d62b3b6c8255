use Rattle.std.proofs.Common.{take}
use Rattle.failure_report.specs.Named.{AreNumbers}
use Rattle.failure_report.proofs.Naming.{lent_names}
use Rattle.failure_report.proofs.numbers.numbers_of.Given as goal

abbrev pub invariant-loop-name : goal.invariant-loop-name
invariant-loop-name l = AreNumbers l.plan (lent_names (take l.name-index l.names)) l.numbers.items
