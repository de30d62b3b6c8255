-- The nodes and the names of one file.
use Rattle.std.specs.Prelude.{ℕ, ◌+◌, ◌==◌, nat_lt, Bool, false, List, [], ◌∷◌, ◌++◌, length, map, position, Option, Some, None}
use Rattle.std.specs.List.{flat_map}
use Rattle.std.specs.Str.{bytes_eq}
use Rattle.dag_reader.specs.declared.command.Command.{Command}
use Rattle.dag_reader.specs.declared.command.Command.TheVariants.{Job, Splice, Final}
use Rattle.dag_reader.specs.declared.command.Target.{Target}
use Rattle.dag_reader.specs.declared.command.Target.TheVariants.{Node, AllNodes}
use Rattle.dag_reader.specs.Word.{PlacedText}
use Rattle.splices_flat.specs.declared.flat.FlatNode.{FlatNode}
use Rattle.splices_flat.specs.declared.flat.Settings.{Settings}
use Rattle.splices_flat.specs.Paths.{join, dir_text}

-- what a JOB or a FINAL line declares
pub record Declared : Type 0 where
  pub name : PlacedText
  pub file : PlacedText
  pub dir : Option PlacedText
  pub noop : Bool
  pub done : Bool

abbrev pub job_in : Command → List Declared
job_in (Job name file dir noop done) = record { name = name; file = file; dir = dir; noop = noop; done = done } ∷ []
job_in _ = []

abbrev pub final_in : Command → List Declared
final_in (Final name file dir noop) = record { name = name; file = file; dir = dir; noop = noop; done = false } ∷ []
final_in _ = []

-- what the JOB lines declare, in their order, and what the FINAL lines do
abbrev pub jobs_in : List Command → List Declared
jobs_in commands = flat_map job_in commands

abbrev pub finals_in : List Command → List Declared
finals_in commands = flat_map final_in commands

abbrev pub names_in : List Declared → List (List ℕ)
names_in declared = map (λ d. d.name.text) declared

abbrev pub job_names : List Command → List (List ℕ)
job_names commands = names_in (jobs_in commands)

abbrev pub final_names : List Command → List (List ℕ)
final_names commands = names_in (finals_in commands)

-- the names of a file's nodes: those of its JOB lines, and then that of FINAL
abbrev pub node_names : List Command → List (List ℕ)
node_names commands = job_names commands ++ final_names commands

-- the names of the SPLICE lines
abbrev pub splice_name : Command → List (List ℕ)
splice_name (Splice name file dir) = name.text ∷ []
splice_name _ = []

abbrev pub splice_names : List Command → List (List ℕ)
splice_names commands = flat_map splice_name commands

-- how many ordinary nodes a file has itself
abbrev pub own_count : List Command → ℕ
own_count commands = length (jobs_in commands)

abbrev pub is_place : Option ℕ → ℕ → Bool
is_place None place = false
is_place (Some k) place = k == place

-- The target of a setting stands for the node at this place of its file, where these are the names of the JOB lines and of
-- the FINAL lines: its word is the node's name; ALL_NODES stands for the nodes of the JOB lines.
abbrev pub reaches : List (List ℕ) → List (List ℕ) → ℕ → Target → Bool
reaches jobs finals place (Node word) = is_place (position (bytes_eq word.text) (jobs ++ finals)) place
reaches jobs finals place (AllNodes span) = nat_lt place (length jobs)

-- a node in a file with this prefix and this folder
abbrev pub node_of : List ℕ → List ℕ → Settings → Declared → FlatNode
node_of prefix folder settings d = record {
  name = prefix ++ d.name.text;
  file = join (join folder (dir_text d.dir)) d.file.text;
  folder = join folder (dir_text d.dir);
  noop = d.noop;
  done = d.done;
  settings = settings;
}

-- nodes, the first of which has this place, each with the settings of its place
abbrev pub declared_nodes : List ℕ → List ℕ → (ℕ → Settings) → ℕ → List Declared → List FlatNode
declared_nodes prefix folder settings place [] = []
declared_nodes prefix folder settings place (d ∷ ds) =
    node_of prefix folder (settings place) d ∷ declared_nodes prefix folder settings (place + 1) ds
