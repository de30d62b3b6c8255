-- What the rules ask of opened files beside what they say: names that are declared once, FINAL in the top file alone, not too many files in one
-- another, not too many nodes and splices.
use Rattle.std.specs.Prelude.{◌≡◌, ◌≢◌, ℕ, ◌+◌, ◌≤◌, max, AllPairs, List, [], ◌∷◌, length}
use Rattle.std.specs.List.{flat_map}
use Rattle.dag_reader.specs.declared.command.Command.{Command}
use Rattle.dag_reader.specs.declared.command.Command.TheVariants.{Job, Splice, Final}
use Rattle.splices_flat.specs.Nodes.{finals_in, own_count}
use Rattle.splices_flat.specs.Forest.{Forest, none, more, Tree}
use Rattle.splices_flat.specs.Opening.{forest_declared, forest_splices}

-- the name of a node, of a splice or of FINAL that a line declares
abbrev pub declared_name : Command → List (List ℕ)
declared_name (Job name file dir noop done) = name.text ∷ []
declared_name (Splice name file dir) = name.text ∷ []
declared_name (Final name file dir noop) = name.text ∷ []
declared_name _ = []

abbrev pub declared_names : List Command → List (List ℕ)
declared_names commands = flat_map declared_name commands

-- no two lines of a file declare one name, and one FINAL at most
pub record DeclareOnce (commands : List Command) : Type 0 where
  pub names : AllPairs (λ a b. a ≢ b) (declared_names commands)
  pub finals : length (finals_in commands) ≤ 1

-- how many of these files lie in one another
abbrev pub forest_depth : Forest → ℕ
forest_depth none = 0
forest_depth (more name file inner others) = max (1 + forest_depth inner) (forest_depth others)

-- each of these files declares its names once, and no FINAL
abbrev pub AreRegular : Forest → Type 0
AreRegular none = Unit {0}
AreRegular (more name file inner others) = DeclareOnce file.commands × (finals_in file.commands ≡ []) × AreRegular inner × AreRegular others

-- The files of a DAG: at most 32 lie in the top file, one in the other, with at most 65,536 nodes, FINAL among them, and 4,096
-- splices.
pub record IsRegular (tree : Tree) : Type 0 where
  pub once : DeclareOnce tree.file.commands
  pub inner : AreRegular tree.inner
  pub depth : forest_depth tree.inner ≤ 32
  pub nodes : (own_count tree.file.commands + length (finals_in tree.file.commands)) + forest_declared tree.inner ≤ 65536
  pub splices : forest_splices tree.inner ≤ 4096
