use Rattle.std.proofs.Common.{◌≡◌, string_bytes}
use Rattle.status_report.specs.Text.{fate_lines}
use Rattle.fate_audit.specs.Fates.{fate_at}
use Rattle.dag_main_inspect.proofs.audits.passed_text.Given as goal

abbrev pub invariant-loop-node : goal.invariant-loop-node
invariant-loop-node l = string_bytes l.text ≡ fate_lines l.plan (fate_at l.fates) l.node
