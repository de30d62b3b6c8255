-- The table's parts as the code has them.
use Rattle.std.specs.Prelude.{◌≡◌, Result, Ok, Err}
use Rattle.std.specs.Option.{option_map}
use Rattle.dag_reader.specs.declared.fault.LineFault.{LineFault}
use Rattle.dag_reader.specs.declared.fault.ReadFault.{ReadFault}
use Rattle.dag_reader.specs.declared.layout.Ending as coded
use Rattle.dag_reader.specs.declared.layout.Ending.TheVariants as coded_endings
use Rattle.dag_reader.specs.declared.layout.Layout as coded_layout
use Rattle.dag_reader.specs.declared.values.Values as coded_values
use Rattle.dag_reader.specs.declared.pass.Pass as coded_pass
use Rattle.dag_reader.specs.LineReader.{word_of}
use Rattle.dag_reader.specs.Layouts.{layout, Ending, Brackets, Many, Children, Values, State}
use Rattle.dag_reader.specs.Reading.{Fails}

abbrev pub ending_of : coded.Ending → Ending
ending_of (coded_endings.Brackets brackets) = Brackets brackets.now
ending_of (coded_endings.Many field) = Many field
ending_of coded_endings.Children = Children

abbrev pub values_of : coded_values.Values → Values
values_of v = record {
  name = word_of v.name;
  node = word_of v.node;
  file = word_of v.file;
  when = v.when;
  count = v.count;
  number = v.number;
  dir = option_map word_of v.dir;
  noop = v.noop;
  done = v.done;
  unless_exit = v.unless_exit;
  status = v.status;
  parents = v.parents;
  words = v.words;
}

abbrev pub state_of : coded_pass.Pass → Values → State
state_of p values = record { fields = p.fields.now; ending = ending_of p.ending; values = values }

-- what a method left is what reading gives, unless memory ran out
abbrev pub Leaves : {S : Type 0} → Result (Unit {0}) ReadFault → S → Result S LineFault → Type 0
Leaves (Ok x) left read = read ≡ Ok left
Leaves (Err e) left read = Fails e read

-- a row of the code is that of the table
pub record HasRow (l : coded_layout.Layout) : Type 0 where
  pub keyword : l.keyword.now ≡ (layout l.kind).keyword
  pub fields : l.fields.now ≡ (layout l.kind).fields
  pub ending : ending_of l.ending ≡ (layout l.kind).ending
