use Rattle.std.proofs.Common.{◌≡◌, ◌++◌, string_bytes}
use Rattle.report_page.specs.Rows.{node_rows}
use Rattle.report_page.proofs.rows.push_rows.Given as goal

abbrev pub invariant-loop-place : goal.invariant-loop-place
invariant-loop-place l = string_bytes l.text ≡ string_bytes l.fn.text ++ node_rows l.rows l.place
