-- What would be otherwise under condor_submit_dag.
use Rattle.std.specs.Prelude.{ℕ, Bool, true, false, ◌||◌, ◌&&◌, ◌==◌, ◌+◌, ◌-◌, List, [], ◌∷◌, ◌++◌, length, slice_index, if◌then◌else◌, codes, Option, Some, None}
use Rattle.std.specs.List.{list_any}
use Rattle.submit_file.specs.Lines.{trim_start}
use Rattle.dag_reader.specs.Keywords.{begins_with}
use Rattle.submit_file.specs.declared.placed.PlacedAssignment.{PlacedAssignment}
use Rattle.file_hints.specs.References.{references}
use Rattle.file_hints.specs.Submitted.{is_same_word, has_name, findings_at}
use Rattle.file_hints.specs.declared.macros.Reference.{Reference}
use Rattle.file_hints.specs.declared.hint.Hint.{Hint}
use Rattle.file_hints.specs.declared.hint.Hint.TheVariants.{NoLog, NoEnvironment, OwnFolder, ContinuedComment, LaunchNumber}
use Rattle.file_hints.specs.declared.hint.Finding.{Finding}

-- the universe of jobs of the machine from which they are queued
abbrev pub is_of_one_machine : PlacedAssignment → Bool
is_of_one_machine p = is_same_word p.assignment.name (codes "universe") && (is_same_word p.assignment.value (codes "local") || is_same_word p.assignment.value (codes "scheduler"))

-- the job is one of the machine from which it is queued
abbrev pub has_own_universe : List PlacedAssignment → Bool
has_own_universe placed = list_any (λ p. p.counts && is_of_one_machine p) placed

-- the job sees the files where they are, or has them moved
abbrev pub stays_here : List PlacedAssignment → Bool
stays_here placed = has_own_universe placed || has_name placed (codes "transfer_input_files")

-- a hint, unless there is no cause for it
abbrev pub unless : Bool → Hint → Option Hint
unless true hint = None
unless false hint = Some hint

-- a reference to the number of the launch
abbrev pub is_launch_name : List ℕ → Bool
is_launch_name name = is_same_word (codes "Cluster") name || is_same_word (codes "ClusterId") name

abbrev pub launch_note : ℕ → Reference → List Finding
launch_note line r = findings_at line (if is_launch_name r.name then Some (LaunchNumber r.name) else None)

abbrev pub launch_notes : ℕ → List Reference → List Finding
launch_notes line [] = []
launch_notes line (r ∷ rs) = launch_note line r ++ launch_notes line rs

-- those of all values above the queue line
abbrev pub value_notes : List PlacedAssignment → List Finding
value_notes [] = []
value_notes (p ∷ ps) = (if p.counts then launch_notes p.line (references p.assignment.value) else []) ++ value_notes ps

-- What the file lacks is said of its first line.
abbrev pub submit_notes : List PlacedAssignment → List Finding
submit_notes placed =
    ((findings_at 1 (unless (has_name placed (codes "log")) NoLog) ++ findings_at 1 (unless (has_name placed (codes "getenv")) NoEnvironment))
    ++ findings_at 1 (unless (stays_here placed) OwnFolder)) ++ value_notes placed

-- the last byte is a backslash (92)
abbrev pub ends_in_backslash : List ℕ → Bool
ends_in_backslash line = slice_index line (length line - 1) == 92

-- a comment (35) that ends with a backslash
abbrev pub is_continued_comment : List ℕ → Bool
is_continued_comment line = begins_with 35 (trim_start line) && ends_in_backslash (trim_start line)

abbrev pub comment_notes : ℕ → List (List ℕ) → List Finding
comment_notes number [] = []
comment_notes number (l ∷ ls) = findings_at number (if is_continued_comment l then Some ContinuedComment else None) ++ comment_notes (number + 1) ls
