-- Reading a rescue file line by line, up to the first fault.
use Rattle.std.specs.Prelude.{ℕ, ◌+◌, List, [], ◌∷◌, ◌++◌, length, Option, Some, None, position, Result, Ok, Err, nat_lt, codes, if◌then◌else◌}
use Rattle.std.specs.Option.{option_to_list}
use Rattle.std.specs.Str.{bytes_eq}
use Rattle.std.specs.Str.Lines.{lines}
use Rattle.dag_reader.specs.declared.fault.LineFault.{LineFault}
use Rattle.dag_reader.specs.Word.{PlacedText}
use Rattle.dag_reader.specs.Words.{words}
use Rattle.dag_reader.specs.Keywords.{is_keyword, is_comment}
use Rattle.dag_reader.specs.Reading.{text_of}
pub use Rattle.dag_reader.specs.Results.{◌>>=◌}
use Rattle.dag_reader.specs.Results.{Tells, Returns}
use Rattle.splices_flat.specs.Dag.{Dag}
use Rattle.dag_graph.specs.Graph.{names_of}
use Rattle.rescue_file.specs.declared.fault.RescueFault.{RescueFault}
use Rattle.rescue_file.specs.declared.fault.RescueFault.TheVariants.{BadLine, UnknownNode, FinalDone, Memory}

-- the name after the keyword DONE, if it is the last word
abbrev pub last_name : List PlacedText → Option (List ℕ)
last_name [] = None
last_name (name ∷ []) = Some name.text
last_name (name ∷ w ∷ ws) = None

unfoldable pub name_behind : PlacedText → List PlacedText → Option (List ℕ)
name_behind keyword ws = if is_keyword (codes "DONE") keyword then last_name ws else None

-- a line that isn't silent has to say a name
abbrev pub or_bad : ℕ → Option (List ℕ) → Result (Option (List ℕ)) RescueFault
or_bad number None = Err (BadLine number)
or_bad number (Some name) = Ok (Some name)

abbrev pub words_say_node : ℕ → List PlacedText → Result (Option (List ℕ)) RescueFault
words_say_node number [] = Ok None
words_say_node number (first ∷ ws) = if is_comment first then Ok None else or_bad number (name_behind first ws)

abbrev pub text_says_node : ℕ → Result (List ℕ) LineFault → Result (Option (List ℕ)) RescueFault
text_says_node number (Ok text) = words_say_node number (words number 0 text)
text_says_node number (Err fault) = Err (BadLine number)

-- the name that a line says, if it says one
unfoldable pub rescue_name_at : ℕ → List ℕ → Result (Option (List ℕ)) RescueFault
rescue_name_at number bytes = text_says_node number (text_of number bytes)

-- The number of the first node with this name; the FINAL node's is the last one.
abbrev pub number_of : Dag → List ℕ → Option ℕ
number_of dag name = position (bytes_eq name) (names_of dag)

-- the node with this number, which has to be an ordinary one
abbrev pub ordinary_of : Dag → ℕ → Option ℕ → Result ℕ RescueFault
ordinary_of dag number None = Err (UnknownNode number)
ordinary_of dag number (Some node) = if nat_lt node (length dag.nodes) then Ok node else Err (FinalDone number)

abbrev pub node_by_name : Dag → ℕ → List ℕ → Result ℕ RescueFault
node_by_name dag number name = ordinary_of dag number (number_of dag name)

abbrev pub said_of_line : Dag → ℕ → Option (List ℕ) → Result (Option ℕ) RescueFault
said_of_line dag number None = Ok None
said_of_line dag number (Some name) = node_by_name dag number name >>= λ node. Ok (Some node)

-- the ordinary node that a line says is done, if it says one
unfoldable pub rescue_line_at : Dag → ℕ → List ℕ → Result (Option ℕ) RescueFault
rescue_line_at dag number bytes = rescue_name_at number bytes >>= said_of_line dag number

-- the nodes of lines, the first of which has this number
unfoldable pub rescue_lines_at : Dag → ℕ → List (List ℕ) → Result (List ℕ) RescueFault
rescue_lines_at dag number [] = Ok []
rescue_lines_at dag number (line ∷ more) = do
  first ← rescue_line_at dag number line
  others ← rescue_lines_at dag (number + 1) more
  Ok (option_to_list first ++ others)

-- the nodes of a rescue file, or its first fault
abbrev pub rescued_of : Dag → List ℕ → Result (List ℕ) RescueFault
rescued_of dag bytes = rescue_lines_at dag 1 (lines bytes)

-- The fault that a refusal tells; for lack of memory it tells none.
abbrev pub told_fault : RescueFault → Option RescueFault
told_fault Memory = None
told_fault fault = Some fault

-- what a function returned, seen by view, is this answer, unless memory ran out
abbrev pub Fails : {Y : Type 0} → RescueFault → Result Y RescueFault → Type 0
Fails fault answer = Tells (told_fault fault) answer

abbrev pub Gives : {X Y : Type 0} → (X → Y) → Result X RescueFault → Result Y RescueFault → Type 0
Gives view = Returns told_fault view
