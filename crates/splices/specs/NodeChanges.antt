-- What one line changes among the nodes of its file, as the code has them.
use Rattle.std.specs.Prelude.{ℕ, ◌+◌, nat_lt, Bool, not, ◌&&◌, List, [], ◌∷◌, ◌++◌, if◌then◌else◌}
use Rattle.dag_reader.specs.declared.command.Command.{Command}
use Rattle.splices_flat.specs.declared.flat.FlatNode.{FlatNode}
use Rattle.splices_flat.specs.Nodes.{Declared, node_of}
use Rattle.splices_flat.specs.Settings.{no_settings, with_line}
use Rattle.splices_flat.specs.Warnings.{each_once, replaced_in}

-- a node of which no line says anything, and one after one more line that is for it
abbrev pub plain_node : List ℕ → List ℕ → Declared → FlatNode
plain_node prefix folder d = node_of prefix folder no_settings d

abbrev pub set_node : List ℕ → Command → FlatNode → FlatNode
set_node prefix c node = record node { settings = with_line prefix node.settings c }

-- the nodes, the first of which has this place, with a change of those whose places are reached
abbrev pub changed_where : (ℕ → Bool) → (FlatNode → FlatNode) → ℕ → List FlatNode → List FlatNode
changed_where reached change place [] = []
changed_where reached change place (n ∷ ns) = (if reached place then change n else n) ∷ changed_where reached change (place + 1) ns

-- what the nodes give whose places are reached, one after the other
abbrev pub given_where : (ℕ → Bool) → (FlatNode → List ℕ) → ℕ → List FlatNode → List ℕ
given_where reached give place [] = []
given_where reached give place (n ∷ ns) = (if reached place then give n else []) ++ given_where reached give (place + 1) ns

-- the lines that a command replaces in these nodes, each once
abbrev pub replaced_among : (ℕ → Bool) → Command → List FlatNode → List ℕ
replaced_among reached c nodes = each_once (given_where reached (λ node. replaced_in node.settings c) 0 nodes)

-- a place from the first of these to the one before the second
abbrev pub is_between : ℕ → ℕ → ℕ → Bool
is_between from until place = not (nat_lt place from) && nat_lt place until
