-- That the fault of a line is the first from the left.
use Rattle.std.specs.Prelude.{◌≡◌, ◌⊎◌, List, [], ◌∷◌, ◌++◌, Some, Ok, Err}
use Rattle.dag_reader.specs.declared.span.Span.{Span}
use Rattle.dag_reader.specs.declared.command.Command.{Command}
use Rattle.dag_reader.specs.declared.fault.LineFault.{LineFault}
use Rattle.dag_reader.specs.declared.fault.LineFault.TheVariants.{MissingWord}
use Rattle.dag_reader.specs.declared.layout.LineKind.{LineKind}
use Rattle.dag_reader.specs.Word.{PlacedText}
use Rattle.dag_reader.specs.Fault.{span_of}
use Rattle.dag_reader.specs.Layouts.{line_kind, command_of}

-- These words begin the words of a command of this kind.
abbrev pub BeginCommand : LineKind → List PlacedText → Type 0
BeginCommand kind ws = (more : List PlacedText) × (end : Span) × (c : Command) × (command_of kind (ws ++ more) end ≡ Ok c)

-- The fault is the line's end, where a word is missing, or that of a word: the words before it begin a command, and with it
-- they begin none.
abbrev pub IsLeftmost : LineKind → List PlacedText → Span → LineFault → Type 0
IsLeftmost kind ws end f =
    ((f ≡ MissingWord end) × BeginCommand kind ws)
    ⊎ ((front : List PlacedText) × (w : PlacedText) × (back : List PlacedText) × (ws ≡ front ++ w ∷ back)
    × (span_of f ≡ w.span) × BeginCommand kind front × (BeginCommand kind (front ++ w ∷ []) → ⊥))

abbrev pub FaultsAreLeftmost : Type 0
FaultsAreLeftmost = (first : PlacedText) (kind : LineKind) (ws : List PlacedText) (end : Span) (f : LineFault)
    → line_kind first ≡ Some kind → command_of kind ws end ≡ Err f → IsLeftmost kind ws end f
