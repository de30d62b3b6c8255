-- That a command has nothing of what was before in the places of its words and numbers.
use Rattle.std.specs.Prelude.{◌≡◌, List, Ok}
use Rattle.dag_reader.specs.declared.span.Span.{Span}
use Rattle.dag_reader.specs.declared.layout.LineKind.{LineKind}
use Rattle.dag_reader.specs.Word.{PlacedText}
use Rattle.dag_reader.specs.Layouts.{Values, state, nothing, layout, reading, command_of}
use Rattle.dag_reader.specs.Results.{◌>>=◌}

-- what is in these places, and nothing else
abbrev pub begun : Values → Values
begun v = record nothing { name = v.name; node = v.node; file = v.file; when = v.when; count = v.count; number = v.number }

-- Whatever was there, a line is read as the same command, or has the same fault: a row's command reads what its
-- fields fill.
abbrev pub ReadsOnlyItsFields : Type 0
ReadsOnlyItsFields = (kind : LineKind) (before : Values) (ws : List PlacedText) (end : Span)
    → (reading (state (layout kind).fields (layout kind).ending (begun before)) ws end >>= λ v. Ok ((layout kind).command v)) ≡ command_of kind ws end
