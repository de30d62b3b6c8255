use Rattle.dag_reader.specs.LineReader.{word_of}
use Rattle.dag_reader.proofs.Rows.{kind_found, row_found}
use Rattle.dag_reader.proofs.layout.row_of.Goals as goal

pub returns-clause-kind : goal.returns-clause-kind
returns-clause-kind c = kind_found (word_of c.args.word.now) c.args.rows.now c.first_row.result c.first_row.ensures c.requires

pub returns-clause-row : goal.returns-clause-row
returns-clause-row c = row_found _ c.args.rows.now c.first_row.result c.first_row.ensures c.requires
