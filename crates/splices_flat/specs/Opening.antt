-- Opening a file and those of its splices, with the first fault that is met.
use Rattle.std.specs.Prelude.{ℕ, zero, suc, ◌+◌, nat_lt, Bool, ◌||◌, List, [], ◌∷◌, ◌++◌, length, drop, position, Option, Some, None, Result, Ok, Err, if◌then◌else◌}
use Rattle.std.specs.List.{list_any}
use Rattle.std.specs.Str.{bytes_eq}
use Rattle.dag_reader.specs.declared.command.Command.{Command}
use Rattle.dag_reader.specs.declared.command.Command.TheVariants.{Job, Splice, Final}
use Rattle.dag_reader.specs.declared.fault.LineFault.{LineFault}
use Rattle.dag_reader.specs.Word.{PlacedText}
pub use Rattle.dag_reader.specs.Results.{◌>>=◌}
use Rattle.dag_reader.specs.Reading.{text_at}
use Rattle.splices_flat.specs.declared.fault.DagFault.{DagFault}
use Rattle.splices_flat.specs.declared.used.Used.{Used}
use Rattle.splices_flat.specs.declared.fault.DagFault.TheVariants.{MissingFile, InFile, Loop, DuplicateName, TooDeep, TooManyNodes, FinalInSplice}
use Rattle.splices_flat.specs.Paths.{join, dir_text}
use Rattle.splices_flat.specs.Nodes.{Declared, finals_in, job_names, final_names, splice_names, own_count}
use Rattle.splices_flat.specs.Forest.{ParsedFile, Forest, none, more, Tree}

-- the bytes of each file
abbrev pub Files : Type 0
Files = List ℕ → Option (List ℕ)

abbrev pub in_file : List ℕ → Result (List Command) LineFault → Result (List Command) DagFault
in_file path (Ok commands) = Ok commands
in_file path (Err fault) = Err (InFile path fault)

-- what the file with this path says, if it is there
abbrev pub says_at : List ℕ → Option (List ℕ) → Result (List Command) DagFault
says_at path None = Err (MissingFile path)
says_at path (Some bytes) = in_file path (text_at bytes)

-- FINAL is in the top file alone; these are the paths of the files that a file lies in, and its own
abbrev pub final_fault : List ℕ → List Declared → Result (Unit {0}) DagFault
final_fault path [] = Ok tt
final_fault path (d ∷ ds) = Err (FinalInSplice path d.name.span)

abbrev pub check_final : List (List ℕ) → List ℕ → List Command → Result (Unit {0}) DagFault
check_final [] path commands = Ok tt
check_final (top ∷ []) path commands = Ok tt
check_final (top ∷ next ∷ above) path commands = final_fault path (finals_in commands)

-- a line before declares the name
abbrev pub is_declared : List Command → PlacedText → Bool
is_declared before name = list_any (bytes_eq name.text) (job_names before)
    || (list_any (bytes_eq name.text) (final_names before) || list_any (bytes_eq name.text) (splice_names before))

abbrev pub once : Bool → List ℕ → PlacedText → Result (Unit {0}) DagFault
once taken path name = if taken then Err (DuplicateName path name.span) else Ok tt

abbrev pub has_final : List Command → Bool
has_final before = nat_lt 0 (length (finals_in before))

-- what a line declares is declared by none before it, and there is one FINAL
abbrev pub check_line : List ℕ → List Command → Command → Result (Unit {0}) DagFault
check_line path before (Job name file dir noop done) = once (is_declared before name) path name
check_line path before (Final name file dir noop) = once (has_final before || is_declared before name) path name
check_line path before (Splice name file dir) = once (is_declared before name) path name
check_line path before _ = Ok tt

abbrev pub check_lines : List ℕ → List Command → List Command → Result (Unit {0}) DagFault
check_lines path before [] = Ok tt
check_lines path before (c ∷ cs) = check_line path before c >>= λ _. check_lines path (before ++ c ∷ []) cs

-- with those of this file, there are at most 65,536 nodes, FINAL among them, and 4,096 splices
abbrev pub check_count : Used → List Command → Result (Unit {0}) DagFault
check_count used commands =
    if nat_lt 65536 (used.nodes + (own_count commands + length (finals_in commands))) || nat_lt 4096 used.splices then Err TooManyNodes else Ok tt

abbrev pub check_file : Used → List (List ℕ) → List ℕ → List Command → Result (Unit {0}) DagFault
check_file used above path commands =
    check_final above path commands >>= λ _. check_lines path [] commands >>= λ _. check_count used commands

-- how many splices were opened for these files, and how many nodes they have
abbrev pub forest_splices : Forest → ℕ
forest_splices none = 0
forest_splices (more name file inner others) = suc (forest_splices inner) + forest_splices others

abbrev pub forest_declared : Forest → ℕ
forest_declared none = 0
forest_declared (more name file inner others) =
    ((own_count file.commands + length (finals_in file.commands)) + forest_declared inner) + forest_declared others

abbrev pub with_forest : Used → Forest → Used
with_forest used f = record { nodes = used.nodes + forest_declared f; splices = used.splices + forest_splices f }

abbrev pub with_file : Used → List Command → Used
with_file used commands = record { nodes = used.nodes + (own_count commands + length (finals_in commands)); splices = used.splices }

abbrev pub with_splice : Used → Used
with_splice used = record { nodes = used.nodes; splices = used.splices + 1 }

-- the files of some SPLICE lines, and then those of others
abbrev pub forests_joined : Forest → Forest → Forest
forests_joined none others = others
forests_joined (more name file inner behind) others = more name file inner (forests_joined behind others)

-- how a file is opened: by what was opened before, the paths of the files above it and its own, its folder and its path
abbrev pub Opener : Type 0
Opener = Used → List (List ℕ) → List ℕ → List ℕ → Result Tree DagFault

-- a file is not opened inside itself
abbrev pub enter_at : Opener → Used → List (List ℕ) → List ℕ → List ℕ → Option ℕ → Result Tree DagFault
enter_at opener used above folder path (Some k) = Err (Loop (drop k above))
enter_at opener used above folder path None = opener (with_splice used) (above ++ path ∷ []) folder path

abbrev pub enter : Opener → Used → List (List ℕ) → List ℕ → List ℕ → Result Tree DagFault
enter opener used above folder path = enter_at opener used above folder path (position (bytes_eq path) above)

-- the file of a SPLICE line, in a file with these files above it and this folder
abbrev pub open_line : Opener → Used → List (List ℕ) → List ℕ → Command → Result Forest DagFault
open_line opener used above folder (Splice name file dir) =
    enter opener used above (join folder (dir_text dir)) (join (join folder (dir_text dir)) file.text)
    >>= λ tree. Ok (more name.text tree.file tree.inner none)
open_line opener used above folder _ = Ok none

abbrev pub open_lines : Opener → Used → List (List ℕ) → List ℕ → List Command → Result Forest DagFault
open_lines opener used above folder [] = Ok none
open_lines opener used above folder (c ∷ cs) =
    open_line opener used above folder c
    >>= λ first. open_lines opener (with_forest used first) above folder cs
    >>= λ others. Ok (forests_joined first others)

-- what a file says, in its place
abbrev pub parsed_file : List ℕ → List ℕ → List Command → ParsedFile
parsed_file path folder commands = record { path = path; folder = folder; commands = commands }

-- the file that says this
abbrev pub open_said : Opener → Used → List (List ℕ) → List ℕ → List ℕ → List Command → Result Tree DagFault
open_said opener used above folder path commands =
    check_file used above path commands
    >>= λ _. open_lines opener (with_file used commands) above folder commands
    >>= λ inner. Ok (record { file = parsed_file path folder commands; inner = inner })

-- The file with this path. So many files may lie in one another; `above` has those that it lies in, and itself.
abbrev pub open_file : Files → ℕ → Opener
open_file files zero used above folder path = Err (TooDeep path)
open_file files (suc depth) used above folder path =
    says_at path (files path) >>= open_said (open_file files depth) used above folder path

-- The files of the DAG with this path: the top file lies in no folder, and at most 32 files lie in it, one in the other.
unfoldable pub tree_at : Files → List ℕ → Result Tree DagFault
tree_at files top = open_file files 33 (record { nodes = 0; splices = 0 }) (top ∷ []) [] top
