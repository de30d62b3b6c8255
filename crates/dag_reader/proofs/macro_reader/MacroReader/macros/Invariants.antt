use Rattle.std.proofs.Common.{◌≡◌, length}
use Rattle.dag_reader.specs.MacroReader.{ahead_of}
use Rattle.dag_reader.specs.MacroReading.{macros_ahead}
use Rattle.dag_reader.proofs.PairSteps.{with_macros}
use Rattle.dag_reader.proofs.macro_reader.MacroReader.macros.Given as goal

abbrev pub invariant-pairs : goal.invariant-pairs
invariant-pairs l = with_macros l.macros (macros_ahead (ahead_of l.self)) ≡ macros_ahead (ahead_of l.fn.self)

abbrev pub decreases-pairs : goal.decreases-pairs
decreases-pairs l = length (ahead_of l.self).bytes
