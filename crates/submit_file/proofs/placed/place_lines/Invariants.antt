use Rattle.std.proofs.Common.{◌≡◌, ◌≤◌, ◌+◌, ◌++◌, length}
use Rattle.std.specs.Str.Lines.{lines}
use Rattle.submit_file.specs.Lines.{statements}
use Rattle.submit_file.specs.Placed.{placed_from, placed_of}
use Rattle.submit_file.proofs.Utf8.{AreTexts}
use Rattle.submit_file.proofs.placed.place_lines.Given as goal

abbrev pub invariant-loop-rest : goal.invariant-loop-rest
invariant-loop-rest l = record {
  same : l.placer.placed.items ++ placed_from l.placer.queued (statements l.number (lines l.rest)) ≡ placed_of l.text;
  bound : l.number + length l.rest ≤ length l.text + 1;
  texts : AreTexts (statements l.number (lines l.rest));
}

abbrev pub decreases-loop-rest : goal.decreases-loop-rest
decreases-loop-rest l = length l.rest
