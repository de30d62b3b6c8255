use Rattle.std.proofs.Common.{Err, ap}
use Rattle.std.specs.Option.{option_map}
use Rattle.dag_main_rehearse.specs.Refusals.{bad_line, reading_had_no_memory}
use Rattle.dag_main_rehearse.proofs.report.table_of.Goals as goal

pub returns-in-Err-Memory-clause-refused : goal.returns-in-Err-Memory-clause-refused
returns-in-Err-Memory-clause-refused c = reading_had_no_memory

pub returns-in-Err-BadLine-clause-refused : goal.returns-in-Err-BadLine-clause-refused
returns-in-Err-BadLine-clause-refused c =
    bad_line c.in-Some.bytes.now c.in-Err-BadLine.line (ap (option_map (λ b. b.now)) c.in-Some.is)
    (c.in-Err-BadLine.ensures.bad_line c.in-Err-BadLine.line (λ j. Err (c.in-Err-BadLine.field-0-is j)))
