use Rattle.std.proofs.Common.{◌≡◌, ◌+◌}
use Rattle.run_progress.specs.Columns.{columns}
use Rattle.run_progress.proofs.columns.fits.Given as goal

abbrev pub invariant-loop-character : goal.invariant-loop-character
invariant-loop-character l = columns l.yielded + l.room ≡ l.width
