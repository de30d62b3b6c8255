use Rattle.run_times.specs.Slots.{AreSlotsSoFar}
use Rattle.run_times.proofs.slots.slots_of.Given as goal

abbrev pub invariant-loop-run : goal.invariant-loop-run
invariant-loop-run l = AreSlotsSoFar l.runs l.of.items l.free.items l.run-index
