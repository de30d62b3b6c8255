-- How a fault of a table of outcomes is displayed: its code, its name and its line.
use Rattle.std.specs.Prelude.{ℕ, List, ◌++◌, codes}
use Rattle.std.specs.Fmt.{decimal}
use Rattle.node_machine.specs.declared.outcomes.TableFault.{TableFault}
use Rattle.node_machine.specs.declared.outcomes.TableFault.TheVariants.{BadLine, Memory}

abbrev pub table_fault_text : TableFault → List ℕ
table_fault_text (BadLine line) = codes "N3 BadLine " ++ decimal line
table_fault_text Memory = codes "N4 Memory"
