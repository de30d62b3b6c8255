use Rattle.run_times.specs.Waits.{AreWaits}
use Rattle.run_times.proofs.critical.critical_path.Given as goal

abbrev pub invariant-loop-place : goal.invariant-loop-place
invariant-loop-place l = AreWaits l.graph l.runs l.waits l.place
