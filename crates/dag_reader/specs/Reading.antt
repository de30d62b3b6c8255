-- What a line says, and what a file says, read from left to right up to the first fault.
use Rattle.std.specs.Prelude.{◌≡◌, ℕ, ◌+◌, List, [], ◌∷◌, ◌++◌, length, Option, Some, None, Result, Ok, Err, nat_lt, ◌==◌, if◌then◌else◌, codes}
use Rattle.std.specs.Option.{option_to_list}
use Rattle.std.specs.Str.Lines.{lines}
use Rattle.dag_reader.specs.declared.span.Span.{Span}
use Rattle.dag_reader.specs.declared.fault.LineFault.{LineFault}
use Rattle.dag_reader.specs.declared.fault.LineFault.TheVariants.{NotText, UnknownCommand, Unsupported, MissingWord, TooLong}
use Rattle.dag_reader.specs.declared.fault.ReadFault.{ReadFault}
use Rattle.dag_reader.specs.declared.fault.ReadFault.TheVariants as faults
use Rattle.dag_reader.specs.declared.command.Command.{Command}
use Rattle.dag_reader.specs.declared.command.Command.TheVariants.{Vars, Ignored}
use Rattle.dag_reader.specs.declared.command.Macro.{Macro}
use Rattle.dag_reader.specs.declared.command.DagFile.{DagFile}
use Rattle.dag_reader.specs.declared.layout.LineKind.{LineKind}
use Rattle.dag_reader.specs.Word.{PlacedText}
pub use Rattle.dag_reader.specs.Results.{◌>>=◌, Tells, Returns}
use Rattle.dag_reader.specs.LineReader.{Left, first_left}
use Rattle.dag_reader.specs.Keywords.{is_keyword, is_left_out, is_ignored, is_comment}
use Rattle.dag_reader.specs.Lines.{text_len, ends_with_backslash}
use Rattle.dag_reader.specs.Words.{last_of}
use Rattle.dag_reader.specs.Layouts.{line_kind, command_of, node_in, target_of}
use Rattle.dag_reader.specs.MacroReading.{behind, placement_ahead, macros_ahead}

-- What a method returned, seen by view, and what it left are what reading gives.
abbrev pub Reads : {X Y S : Type 0} → (X → Y) → Result X LineFault → S → Result (Y × S) LineFault → Type 0
Reads view (Ok x) left read = read ≡ Ok (view x, left)
Reads view (Err f) left read = read ≡ Err f

-- the same of a method that goes to the line's end
abbrev pub Answers : {X Y : Type 0} → (X → Y) → Result X LineFault → Result Y LineFault → Type 0
Answers view (Ok x) read = read ≡ Ok (view x)
Answers view (Err f) read = read ≡ Err f

-- and of one that needs memory
abbrev pub fault_of : ReadFault → Option LineFault
fault_of faults.Memory = None
fault_of (faults.Line f) = Some f

abbrev pub Fails : {Y : Type 0} → ReadFault → Result Y LineFault → Type 0
Fails refusal read = Tells (fault_of refusal) read

abbrev pub Gives : {X Y : Type 0} → (X → Y) → Result X ReadFault → Result Y LineFault → Type 0
Gives view = Returns fault_of view

-- one macro or more
abbrev pub some_macros : List Macro → Span → Result (List Macro) LineFault
some_macros [] end = Err (MissingWord end)
some_macros (m ∷ ms) end = Ok (m ∷ ms)

-- what the words after VARS say, in a line with these bytes: a node, and the macros after its word
unfoldable pub vars_of : List ℕ → List PlacedText → Span → Result Command LineFault
vars_of bytes [] end = Err (MissingWord end)
vars_of bytes (word ∷ ws) end = do
  node ← node_in word
  read ← macros_ahead (placement_ahead (behind node.span bytes)).1
  macros ← some_macros read end
  Ok (Vars (target_of node) (placement_ahead (behind node.span bytes)).0 macros)

-- the fault of a line whose first word is no command
abbrev pub first_fault : PlacedText → LineFault
first_fault first = if is_left_out first then Unsupported first.span else UnknownCommand first.span

-- the command that begins with this word, of a line with these bytes
abbrev pub command_in : Option LineKind → List ℕ → PlacedText → Left → Result Command LineFault
command_in (Some kind) bytes first left = command_of kind left.words left.end
command_in None bytes first left = if is_keyword (codes "VARS") first then vars_of bytes left.words left.end else Err (first_fault first)

unfoldable pub command_at : List ℕ → PlacedText → Left → Result Command LineFault
command_at bytes first left = if is_ignored first then Ok (Ignored first.span) else command_in (line_kind first) bytes first left

abbrev pub span : ℕ → ℕ → ℕ → Span
span line start stop = record { line = line; start = start; stop = stop }

-- the bytes of a line, which are a text and not too many
unfoldable pub text_of : ℕ → List ℕ → Result (List ℕ) LineFault
text_of number bytes =
    if nat_lt 65536 (length bytes) then Err (TooLong (span number 65536 (length bytes)))
    else if text_len bytes == length bytes then Ok bytes
    else Err (NotText (span number (text_len bytes) (text_len bytes + 1)))

-- what the words of a line say, whose first is this one and whose bytes are these: a comment says nothing
unfoldable pub said_at : List ℕ → PlacedText → Left → Result (Option Command) LineFault
said_at bytes first left =
    if is_comment first then Ok None
    else if ends_with_backslash bytes then Err (Unsupported (last_of first left.words).span)
    else (command_at bytes first left >>= λ c. Ok (Some c))

-- the same, also where there is no word
abbrev pub said_of : List ℕ → List PlacedText → Span → Result (Option Command) LineFault
said_of bytes [] end = Ok None
said_of bytes (first ∷ ws) end = said_at bytes first (record { words = ws; end = end })

-- what a line says, if it says anything
unfoldable pub line_at : ℕ → List ℕ → Result (Option Command) LineFault
line_at number bytes = do
  text ← text_of number bytes
  said_of text (first_left number text).words (first_left number text).end

-- what lines say, the first of which has this number
unfoldable pub lines_at : ℕ → List (List ℕ) → Result (List Command) LineFault
lines_at number [] = Ok []
lines_at number (line ∷ more) = do
  first ← line_at number line
  others ← lines_at (number + 1) more
  Ok (option_to_list first ++ others)

-- what a text says
abbrev pub text_at : List ℕ → Result (List Command) LineFault
text_at text = lines_at 1 (lines text)

abbrev pub commands_of : DagFile → List Command
commands_of file = file.commands.items
