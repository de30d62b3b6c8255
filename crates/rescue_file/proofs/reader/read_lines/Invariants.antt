use Rattle.std.proofs.Common.{◌≡◌, ◌≤◌, ◌+◌, length}
use Rattle.std.specs.Str.Lines.{lines}
use Rattle.rescue_file.specs.Reading.{rescue_lines_at, rescued_of}
use Rattle.rescue_file.proofs.FileReadings.{with_front}
use Rattle.rescue_file.proofs.reader.read_lines.Given as goal

abbrev pub invariant-loop-rest : goal.invariant-loop-rest
invariant-loop-rest l = record {
  same : with_front l.nodes.items (rescue_lines_at l.graph.dag l.number (lines l.rest)) ≡ rescued_of l.graph.dag l.bytes;
  bound : l.number + length l.rest ≤ length l.bytes + 1;
}

abbrev pub decreases-loop-rest : goal.decreases-loop-rest
decreases-loop-rest l = length l.rest
