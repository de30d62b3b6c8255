-- Reading a text of outcomes from left to right, up to the first line that is none.
use Rattle.std.specs.Prelude.{◌≡◌, ℕ, ◌+◌, List, [], ◌∷◌, ◌++◌, Option, Some, None, Result, Ok, Err, codes, nat_le, if◌then◌else◌}
use Rattle.std.specs.Option.{option_to_list, option_map, option_and_then}
use Rattle.dag_reader.specs.declared.fault.LineFault.{LineFault}
use Rattle.dag_reader.specs.Word.{PlacedText}
use Rattle.dag_reader.specs.Words.{words}
use Rattle.dag_reader.specs.Keywords.{is_keyword, is_comment}
use Rattle.dag_reader.specs.Numbers.{count}
use Rattle.dag_reader.specs.Reading.{text_of}
use Rattle.node_machine.specs.declared.Phase.{Phase}
use Rattle.node_machine.specs.declared.Phase.TheVariants.{Pre, Job, Post}
use Rattle.node_machine.specs.declared.Outcome.{Outcome}
use Rattle.node_machine.specs.declared.Outcome.TheVariants.{Exit, Signal, NoStart, Untold}
use Rattle.node_machine.specs.declared.outcomes.TableFault.{TableFault}
use Rattle.node_machine.specs.declared.outcomes.TableFault.TheVariants.{BadLine, Memory}
use Rattle.node_machine.specs.OutcomeTable.{Entry}

unfoldable pub phase_in : PlacedText → Option Phase
phase_in w =
    if is_keyword (codes "PRE") w then Some Pre
    else if is_keyword (codes "JOB") w then Some Job
    else if is_keyword (codes "POST") w then Some Post
    else None

-- how a phase ended, by one word
unfoldable pub ending_in : PlacedText → Option Outcome
ending_in w =
    if is_keyword (codes "NOSTART") w then Some NoStart
    else if is_keyword (codes "UNTOLD") w then Some Untold
    else option_map Exit (count 255 w.text)

abbrev pub signal_of : Option ℕ → Option Outcome
signal_of None = None
signal_of (Some n) = if nat_le 1 n then Some (Signal n) else None

-- the signal that ended it, by two words
unfoldable pub signal_in : PlacedText → PlacedText → Option Outcome
signal_in k n = if is_keyword (codes "SIGNAL") k then signal_of (count 127 n.text) else None

unfoldable pub spelled_outcome : List PlacedText → Option Outcome
spelled_outcome [] = None
spelled_outcome (c ∷ []) = ending_in c
spelled_outcome (k ∷ n ∷ []) = signal_in k n
spelled_outcome (k ∷ n ∷ w ∷ ws) = None

abbrev pub entry_with : PlacedText → ℕ → Phase → Outcome → Entry
entry_with name attempt phase outcome =
    record { name = name.text; attempt = attempt; phase = phase; outcome = outcome }

-- the entry of this name and attempt, whose phase is the next word
unfoldable pub phased_in : PlacedText → ℕ → List PlacedText → Option Entry
phased_in name attempt [] = None
phased_in name attempt (w ∷ ws) =
    option_and_then (λ phase. option_map (entry_with name attempt phase) (spelled_outcome ws)) (phase_in w)

-- the entry whose name is the first word
unfoldable pub entry_in : PlacedText → List PlacedText → Option Entry
entry_in name [] = None
entry_in name (w ∷ ws) = option_and_then (λ attempt. phased_in name attempt ws) (count 1000000 w.text)

abbrev pub words_say_entry : List PlacedText → Option (Option Entry)
words_say_entry [] = Some None
words_say_entry (first ∷ ws) = if is_comment first then Some None else option_map Some (entry_in first ws)

abbrev pub text_says_entry : ℕ → Result (List ℕ) LineFault → Option (Option Entry)
text_says_entry number (Ok text) = words_say_entry (words number 0 text)
text_says_entry number (Err f) = None

-- what a line says, if it says an entry or nothing
unfoldable pub entry_at : ℕ → List ℕ → Option (Option Entry)
entry_at number bytes = text_says_entry number (text_of number bytes)

abbrev pub then_lines : ℕ → Option (Option Entry) → Result (List Entry) ℕ → Result (List Entry) ℕ
then_lines number None later = Err number
then_lines number (Some first) (Ok others) = Ok (option_to_list first ++ others)
then_lines number (Some first) (Err bad) = Err bad

-- the entries of lines, the first of which has this number, or the number of the first bad line
unfoldable pub entries_at : ℕ → List (List ℕ) → Result (List Entry) ℕ
entries_at number [] = Ok []
entries_at number (line ∷ more) = then_lines number (entry_at number line) (entries_at (number + 1) more)

-- the fault is what reading gives, unless memory ran out
abbrev pub IsFaultOf : Result (List Entry) ℕ → TableFault → Type 0
IsFaultOf read Memory = Unit {0}
IsFaultOf read (BadLine number) = read ≡ Err number

-- the same of one line
abbrev pub IsLineFault : ℕ → Option (Option Entry) → TableFault → Type 0
IsLineFault number read Memory = Unit {0}
IsLineFault number read (BadLine n) = (n ≡ number) × (read ≡ None)
