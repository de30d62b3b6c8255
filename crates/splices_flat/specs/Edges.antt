-- The edges of opened files, in groups: each PARENT line is one. A node's number is its place among all nodes.
use Rattle.std.specs.Prelude.{ℕ, ◌+◌, List, [], ◌∷◌, ◌++◌, Option, Some, None, position, slice_get, if◌then◌else◌}
use Rattle.std.specs.List.{flat_map, list_any}
use Rattle.std.specs.Str.{bytes_eq}
use Rattle.dag_reader.specs.declared.command.Command.{Command}
use Rattle.dag_reader.specs.declared.command.Command.TheVariants.{ParentChild}
use Rattle.dag_reader.specs.Word.{PlacedText}
use Rattle.splices_flat.specs.declared.flat.EdgeGroup.{EdgeGroup}
use Rattle.splices_flat.specs.declared.flat.Side.{Side}
use Rattle.splices_flat.specs.declared.flat.Side.TheVariants.{Parent, Child}
use Rattle.splices_flat.specs.declared.part.Part.{Part}
use Rattle.splices_flat.specs.Nodes.{own_count, job_names, splice_names}
use Rattle.splices_flat.specs.Forest.{Tree, Forest, none, more, forest_count}
use Rattle.splices_flat.specs.Places.{edges_of, free_of}

-- What a PARENT line sees: the number of the file's first node, the names of its nodes and of its splices
-- in the order of their lines, and the splices' parts.
pub record NodeScope : Type 0 where
  pub first : ℕ
  pub jobs : List (List ℕ)
  pub splices : List (List ℕ)
  pub parts : List Part

abbrev pub node_scope : ℕ → List Command → List Part → NodeScope
node_scope first commands parts = record { first = first; jobs = job_names commands; splices = splice_names commands; parts = parts }

-- As a parent a splice stands for its nodes that have no child in it, as a child for those that have no parent in it.
abbrev pub side_of : Side → Part → List ℕ
side_of Parent part = part.tails
side_of Child part = part.heads

abbrev pub part_nodes : Side → Option Part → List ℕ
part_nodes side None = []
part_nodes side (Some part) = side_of side part

abbrev pub splice_nodes : Side → NodeScope → Option ℕ → List ℕ
splice_nodes side scope None = []
splice_nodes side scope (Some k) = part_nodes side (slice_get scope.parts k)

-- the nodes that a name stands for: the node alone, or the splice's
abbrev pub job_or_splice : Side → NodeScope → List ℕ → Option ℕ → List ℕ
job_or_splice side scope name (Some k) = (scope.first + k) ∷ []
job_or_splice side scope name None = splice_nodes side scope (position (bytes_eq name) scope.splices)

abbrev pub nodes_named : Side → NodeScope → PlacedText → List ℕ
nodes_named side scope w = job_or_splice side scope w.text (position (bytes_eq w.text) scope.jobs)

-- of these words those whose text is in no word before and is not seen yet
abbrev pub unseen : List (List ℕ) → List PlacedText → List PlacedText
unseen seen [] = []
unseen seen (w ∷ ws) = if list_any (bytes_eq w.text) seen then unseen seen ws else w ∷ unseen (seen ++ w.text ∷ []) ws

-- the nodes that names stand for, each name once
abbrev pub all_stand_for : Side → NodeScope → List PlacedText → List ℕ
all_stand_for side scope ws = flat_map (nodes_named side scope) (unseen [] ws)

-- the edges of a line: each node that its parents stand for is a parent of each that its children stand for
abbrev pub line_edges : NodeScope → Command → List EdgeGroup
line_edges scope (ParentChild parents children) =
    record { parents = all_stand_for Parent scope parents; children = all_stand_for Child scope children } ∷ []
line_edges scope _ = []

-- the edges of a file: those of its splices, and those of its lines
abbrev pub file_edges : ℕ → List Command → List EdgeGroup → List Part → List EdgeGroup
file_edges first commands inner_edges inner_parts = inner_edges ++ flat_map (line_edges (node_scope first commands inner_parts)) commands

abbrev pub part_of : ℕ → ℕ → List EdgeGroup → Part
part_of first count groups =
    record { heads = free_of Child first count (edges_of groups); tails = free_of Parent first count (edges_of groups); count = count }

-- The edges of the files, the first of whose nodes has the number `first`, and their parts.
abbrev mutual
  pub forest_edges : ℕ → Forest → List EdgeGroup
  forest_edges first none = []
  forest_edges first (more name file inner others) =
      file_edges first file.commands (forest_edges (first + own_count file.commands) inner) (forest_parts (first + own_count file.commands) inner)
      ++ forest_edges (first + (own_count file.commands + forest_count inner)) others

  pub forest_parts : ℕ → Forest → List Part
  forest_parts first none = []
  forest_parts first (more name file inner others) =
      part_of first (own_count file.commands + forest_count inner)
      (file_edges first file.commands (forest_edges (first + own_count file.commands) inner) (forest_parts (first + own_count file.commands) inner))
      ∷ forest_parts (first + (own_count file.commands + forest_count inner)) others

-- Of a file and its splices: how many ordinary nodes, the edges, and the part of the graph.
abbrev pub tree_count : Tree → ℕ
tree_count t = own_count t.file.commands + forest_count t.inner

abbrev pub tree_edges : ℕ → Tree → List EdgeGroup
tree_edges first t = file_edges first t.file.commands (forest_edges (first + own_count t.file.commands) t.inner) (forest_parts (first + own_count t.file.commands) t.inner)

abbrev pub tree_part : ℕ → Tree → Part
tree_part first t = part_of first (tree_count t) (tree_edges first t)
