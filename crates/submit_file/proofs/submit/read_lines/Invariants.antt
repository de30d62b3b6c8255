use Rattle.std.proofs.Common.{◌≡◌, ◌≤◌, ◌+◌, length}
use Rattle.std.specs.Str.Lines.{lines}
use Rattle.submit_file.specs.Lines.{statements}
use Rattle.submit_file.specs.Readings.{reading_of}
use Rattle.submit_file.specs.Submit.{read_from, submit_of}
use Rattle.submit_file.proofs.Utf8.{AreTexts}
use Rattle.submit_file.proofs.submit.read_lines.Given as goal

abbrev pub invariant-loop-rest : goal.invariant-loop-rest
invariant-loop-rest l = record {
  same : read_from (reading_of l.reader) (statements l.number (lines l.rest)) ≡ submit_of l.text;
  bound : l.number + length l.rest ≤ length l.text + 1;
  texts : AreTexts (statements l.number (lines l.rest));
}

abbrev pub decreases-loop-rest : goal.decreases-loop-rest
decreases-loop-rest l = length l.rest
