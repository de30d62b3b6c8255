use Rattle.std.proofs.Common.{subst}
use Rattle.std.specs.Str.Lines.{lines}
use Rattle.dag_reader.specs.Reading.{Gives, commands_of}
use Rattle.dag_reader.proofs.LineTexts.{is_found, lines_again, is_stopped}
use Rattle.dag_reader.proofs.dag_file.read_dag.Goals as goal

pub returns-clause-found : goal.returns-clause-found
returns-clause-found c = is_found commands_of (lines c.args.text.now) c.read_lines.result c.read_lines.ensures

pub returns-clause-only : goal.returns-clause-only
returns-clause-only c = λ cs says. subst (λ read. Gives commands_of c.read_lines.result read) (lines_again 1 (lines c.args.text.now) cs says) c.read_lines.ensures

pub returns-clause-first_bad : goal.returns-clause-first_bad
returns-clause-first_bad c = is_stopped commands_of (lines c.args.text.now) c.read_lines.result c.read_lines.ensures
