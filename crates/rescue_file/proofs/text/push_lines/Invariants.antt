use Rattle.std.proofs.Common.{◌≡◌, ◌++◌, drop, string_bytes}
use Rattle.rescue_file.proofs.DoneLines.{lines_of}
use Rattle.rescue_file.proofs.text.push_lines.Given as goal

abbrev pub invariant-loop-number : goal.invariant-loop-number
invariant-loop-number l = string_bytes l.text ++ lines_of (drop l.number l.nodes) (drop l.number l.marks) ≡ string_bytes l.initial.text ++ lines_of l.nodes l.marks
