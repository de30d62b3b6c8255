use Rattle.std.proofs.Common.{◌≡◌}
use Rattle.std.specs.Prelude.{sum_by}
use Rattle.run_times.specs.Canvas.{within}
use Rattle.run_times.specs.Names.{character_width}
use Rattle.run_times.proofs.names.text_width.Given as goal

abbrev pub invariant-loop-character : goal.invariant-loop-character
invariant-loop-character l = l.width ≡ within (sum_by character_width l.yielded)
