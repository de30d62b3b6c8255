use Rattle.std.proofs.Common.{◌≡◌}
use Rattle.run_times.specs.Picture.{peak_of}
use Rattle.run_times.proofs.load.peak_of.Given as goal

abbrev pub invariant-loop-level : goal.invariant-loop-level
invariant-loop-level l = l.peak ≡ peak_of l.levels l.level-index
