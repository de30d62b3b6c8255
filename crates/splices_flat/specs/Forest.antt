-- Opened files.
use Rattle.std.specs.Prelude.{ℕ, ◌+◌, List, [], ◌∷◌, ◌++◌}
use Rattle.dag_reader.specs.declared.command.Command.{Command}
use Rattle.splices_flat.specs.declared.flat.FlatNode.{FlatNode}
use Rattle.splices_flat.specs.Nodes.{jobs_in, finals_in, declared_nodes, own_count}
use Rattle.splices_flat.specs.Settings.{settings_at}
use Rattle.splices_flat.specs.Warnings.{Warned, warn_file}

-- what a file says, and where
pub record ParsedFile : Type 0 where
  pub path : List ℕ
  pub folder : List ℕ
  pub commands : List Command

-- The files of some SPLICE lines in their order: of each the splice's name, what the file says, and the
-- files of its own SPLICE lines.
pub data Forest : Type 0 where
  none : Forest
  more : (name : List ℕ) (file : ParsedFile) (inner others : Forest) → Forest

-- an opened file with those of its splices
pub record Tree : Type 0 where
  pub file : ParsedFile
  pub inner : Forest

-- the prefix of the names in a splice: its own name and a plus after the prefix of the file that holds it
abbrev pub inside : List ℕ → List ℕ → List ℕ
inside prefix name = prefix ++ name ++ 43 ∷ []

-- how many ordinary nodes the files have, and how many each of the splices has
abbrev pub forest_count : Forest → ℕ
forest_count none = 0
forest_count (more name file inner others) = (own_count file.commands + forest_count inner) + forest_count others

abbrev pub forest_counts : Forest → List ℕ
forest_counts none = []
forest_counts (more name file inner others) = (own_count file.commands + forest_count inner) ∷ forest_counts others

-- a file where it was opened: the prefix of its names, what it says, and how many nodes each of its splices has
pub record OpenFile : Type 0 where
  pub prefix : List ℕ
  pub said : ParsedFile
  pub counts : List ℕ

abbrev pub opened_as : List ℕ → ParsedFile → Forest → OpenFile
opened_as prefix file inner = record { prefix = prefix; said = file; counts = forest_counts inner }

-- the files in the order of opening: each, and after it those of its splices
abbrev pub forest_files : List ℕ → Forest → List OpenFile
forest_files prefix none = []
forest_files prefix (more name file inner others) =
    (opened_as (inside prefix name) file inner ∷ forest_files (inside prefix name) inner) ++ forest_files prefix others

abbrev pub tree_files : List ℕ → Tree → List OpenFile
tree_files prefix tree = opened_as prefix tree.file tree.inner ∷ forest_files prefix tree.inner

-- the nodes of a file's JOB lines and of FINAL, with what its lines set for them
abbrev pub job_nodes : OpenFile → List FlatNode
job_nodes f = declared_nodes f.prefix f.said.folder (settings_at f.prefix f.said.commands f.said.commands) 0 (jobs_in f.said.commands)

abbrev pub final_nodes : OpenFile → List FlatNode
final_nodes f =
    declared_nodes f.prefix f.said.folder (settings_at f.prefix f.said.commands f.said.commands) (own_count f.said.commands) (finals_in f.said.commands)

-- the warnings of the files are given in their order
abbrev pub warn_files : Warned → List OpenFile → Warned
warn_files warned [] = warned
warn_files warned (f ∷ fs) = warn_files (warn_file f.said.path f.prefix f.said.commands warned) fs
