-- Where a fault is, and how it is displayed.
use Rattle.std.specs.Prelude.{ℕ, List, ◌+◌, ◌++◌, codes, flat_map}
use Rattle.std.specs.Fmt.{decimal}
use Rattle.dag_reader.specs.declared.span.Span.{Span}
use Rattle.dag_reader.specs.declared.fault.LineFault.{LineFault}
use Rattle.dag_reader.specs.declared.fault.LineFault.TheVariants.{NotText, UnknownCommand, Unsupported, MissingWord, UnexpectedWord, BadName, BadNumber, BadQuote, TooLong}

abbrev pub span_of : LineFault → Span
span_of (NotText s) = s
span_of (UnknownCommand s) = s
span_of (Unsupported s) = s
span_of (MissingWord s) = s
span_of (UnexpectedWord s) = s
span_of (BadName s) = s
span_of (BadNumber s) = s
span_of (BadQuote s) = s
span_of (TooLong s) = s

-- how a place is displayed: its line and its column, both from 1
abbrev pub span_text : Span → List ℕ
span_text span = decimal span.line ++ codes ":" ++ decimal (span.start + 1)

-- the code and the name of what is wrong with a line
abbrev pub line_fault_name : LineFault → List ℕ
line_fault_name (NotText s) = codes "L1 NotText"
line_fault_name (UnknownCommand s) = codes "L2 UnknownCommand"
line_fault_name (Unsupported s) = codes "L3 Unsupported"
line_fault_name (MissingWord s) = codes "L4 MissingWord"
line_fault_name (UnexpectedWord s) = codes "L5 UnexpectedWord"
line_fault_name (BadName s) = codes "L6 BadName"
line_fault_name (BadNumber s) = codes "L7 BadNumber"
line_fault_name (BadQuote s) = codes "L8 BadQuote"
line_fault_name (TooLong s) = codes "L9 TooLong"

-- how texts are displayed: a blank before each
abbrev pub texts_text : List (List ℕ) → List ℕ
texts_text texts = flat_map (λ text. codes " " ++ text) texts
