use Rattle.run_times.specs.Load.{AreLevels}
use Rattle.run_times.proofs.load.levels_of.Given as goal

abbrev pub invariant-loop-moment : goal.invariant-loop-moment
invariant-loop-moment l = AreLevels l.runs l.levels.items
