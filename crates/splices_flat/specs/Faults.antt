-- Names in PARENT lines and in settings that can't be there.
use Rattle.std.specs.Prelude.{ℕ, ◌==◌, Bool, false, List, [], ◌∷◌, ◌++◌, position, Option, Some, None, slice_index_or, if◌then◌else◌}
use Rattle.std.specs.List.{list_any}
use Rattle.std.specs.Option.{option_or}
use Rattle.std.specs.Str.{bytes_eq}
use Rattle.dag_reader.specs.declared.command.Command.{Command}
use Rattle.dag_reader.specs.declared.command.Command.TheVariants.{ParentChild, Script, Retry, PreSkip, Vars, Priority, Category, AbortDagOn}
use Rattle.dag_reader.specs.declared.command.Target.{Target}
use Rattle.dag_reader.specs.declared.command.Target.TheVariants.{Node, AllNodes}
use Rattle.dag_reader.specs.Word.{PlacedText}
use Rattle.splices_flat.specs.declared.fault.DagFault.{DagFault}
use Rattle.splices_flat.specs.declared.fault.DagFault.TheVariants.{UnknownNode, SpliceSetting, EmptySpliceEdge, FinalSetting}
use Rattle.splices_flat.specs.Nodes.{job_names, final_names, splice_names}
use Rattle.splices_flat.specs.Forest.{OpenFile}

-- the names that a file declares, and how many nodes each of its splices has
pub record Names : Type 0 where
  pub path : List ℕ
  pub jobs : List (List ℕ)
  pub finals : List (List ℕ)
  pub splices : List (List ℕ)
  pub counts : List ℕ

abbrev pub names_declared : List ℕ → List Command → List ℕ → Names
names_declared path commands counts = record { path = path; jobs = job_names commands; finals = final_names commands; splices = splice_names commands; counts = counts }

abbrev pub is_name_among : List (List ℕ) → PlacedText → Bool
is_name_among names word = list_any (bytes_eq word.text) names

-- the fault of a word that names no node of a JOB line: FINAL, a splice, or nothing
abbrev pub other_fault : Names → PlacedText → Option DagFault → Option DagFault → Option DagFault
other_fault names word as_final as_splice =
    if is_name_among names.jobs word then None
    else if is_name_among names.finals word then as_final
    else if is_name_among names.splices word then as_splice
    else Some (UnknownNode names.path word.span)

-- a setting names a node, and is for no splice; some settings are not for FINAL
abbrev pub setting_fault : Names → Option DagFault → PlacedText → Option DagFault
setting_fault names as_final word = other_fault names word as_final (Some (SpliceSetting names.path word.span))

-- the splice at this place has no nodes
abbrev pub is_empty_at : List ℕ → Option ℕ → Bool
is_empty_at counts None = false
is_empty_at counts (Some k) = slice_index_or counts k 1 == 0

-- a PARENT line names nodes and splices that have nodes, and not FINAL
abbrev pub edge_fault : Names → PlacedText → Option DagFault
edge_fault names word = other_fault names word (Some (FinalSetting names.path word.span))
    (if is_empty_at names.counts (position (bytes_eq word.text) names.splices) then Some (EmptySpliceEdge names.path word.span) else None)

abbrev pub first_some : {X : Type 0} → (X → Option DagFault) → List X → Option DagFault
first_some fault [] = None
first_some fault (x ∷ xs) = option_or (fault x) (first_some fault xs)

-- a setting that FINAL may have, and one that it may not have
abbrev pub target_fault : Names → Target → Option DagFault
target_fault names (Node word) = setting_fault names None word
target_fault names (AllNodes span) = None

abbrev pub job_target_fault : Names → Target → Option DagFault
job_target_fault names (Node word) = setting_fault names (Some (FinalSetting names.path word.span)) word
job_target_fault names (AllNodes span) = None

-- the fault of a line, its leftmost word first
abbrev pub line_fault : Names → Command → Option DagFault
line_fault names (ParentChild parents children) = first_some (edge_fault names) (parents ++ children)
line_fault names (Script kind target program arguments) = target_fault names target
line_fault names (Retry target n v) = target_fault names target
line_fault names (PreSkip target v) = target_fault names target
line_fault names (Vars target placement macros) = target_fault names target
line_fault names (Priority target k) = job_target_fault names target
line_fault names (Category target category) = job_target_fault names target
line_fault names (AbortDagOn target v status) = job_target_fault names target
line_fault names _ = None

-- the fault of a file, its first line first, and that of files in their order
abbrev pub file_fault : OpenFile → Option DagFault
file_fault f = first_some (line_fault (names_declared f.said.path f.said.commands f.counts)) f.said.commands

abbrev pub files_fault : List OpenFile → Option DagFault
files_fault files = first_some file_fault files
