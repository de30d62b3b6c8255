use Rattle.std.proofs.Common.{◌≡◌, take, string_bytes}
use Rattle.dag_main_check.specs.Warnings.{warning_lines}
use Rattle.dag_main_check.proofs.warnings.warning_text.Given as goal

abbrev pub invariant-loop-warning : goal.invariant-loop-warning
invariant-loop-warning l = string_bytes l.text ≡ warning_lines (take l.warning-index l.warnings)
