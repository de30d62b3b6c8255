use Rattle.std.specs.Str.Lines.{lines}
use Rattle.node_machine.proofs.OutcomeLines.{is_found, is_read, is_first_bad, is_refused}
use Rattle.node_machine.proofs.Possible.{is_possible_table}
use Rattle.node_machine.proofs.outcomes.read_table.Goals as goal

pub returns-clause-found : goal.returns-clause-found
returns-clause-found c = is_found (lines c.args.text.now) c.read_lines.result c.read_lines.ensures.ok

pub returns-clause-only : goal.returns-clause-only
returns-clause-only c = is_read (lines c.args.text.now) c.read_lines.result c.read_lines.ensures.ok c.read_lines.ensures.err

pub returns-clause-bad_line : goal.returns-clause-bad_line
returns-clause-bad_line c = is_first_bad (lines c.args.text.now) c.read_lines.result c.read_lines.ensures.err

pub returns-clause-refused : goal.returns-clause-refused
returns-clause-refused c = is_refused (lines c.args.text.now) c.read_lines.result c.read_lines.ensures.ok c.read_lines.ensures.err

pub returns-clause-possible : goal.returns-clause-possible
returns-clause-possible c =
    is_possible_table (lines c.args.text.now) c.read_lines.result (is_found (lines c.args.text.now) c.read_lines.result c.read_lines.ensures.ok)
