use Rattle.std.proofs.Common.{◌≡◌, ◌++◌, string_bytes}
use Rattle.run_times.specs.Table.{fields_text, rows_text}
use Rattle.run_times.proofs.table.table_text.Given as goal

abbrev pub invariant-loop-place : goal.invariant-loop-place
invariant-loop-place l = string_bytes l.text ≡ fields_text ++ rows_text l.runs l.marks l.place
