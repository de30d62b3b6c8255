use Rattle.std.proofs.Common.{◌≡◌, string_bytes}
use Rattle.status_report.specs.Text.{lines_of}
use Rattle.status_report.proofs.lines.status_text.Given as goal

abbrev pub invariant-loop-node : goal.invariant-loop-node
invariant-loop-node l = string_bytes l.text ≡ lines_of l.core.plan l.core.past l.node
