use Rattle.std.proofs.Common.{ap, List}
use Rattle.node_machine.specs.OutcomeTable.{Entry, outcome_at}
use Rattle.node_machine.specs.TableMaps.{table_entries}
use Rattle.node_machine.proofs.table.Table.empty.Goals as goal

pub returns-clause-entries : goal.returns-clause-entries
unfolding table_entries
returns-clause-entries c = ap table_entries c.new.ensures.empty

pub returns-clause-exit_0 : goal.returns-clause-exit_0
unfolding table_entries outcome_at
returns-clause-exit_0 c = λ n a p. ap (λ (es : List Entry). outcome_at es n a p) (ap table_entries c.new.ensures.empty)
