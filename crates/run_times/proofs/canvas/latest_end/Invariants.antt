use Rattle.std.proofs.Common.{◌≡◌}
use Rattle.run_times.specs.Canvas.{latest_end}
use Rattle.run_times.proofs.canvas.latest_end.Given as goal

abbrev pub invariant-loop-run : goal.invariant-loop-run
invariant-loop-run l = l.latest ≡ latest_end l.runs l.run-index
