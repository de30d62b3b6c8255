-- The picture of a DAG whose nodes are folded: a box for each class.
use Rattle.std.specs.Prelude.{◌≡◌, ℕ, zero, suc, ◌==◌, Bool, ◌&&◌, List, [], ◌++◌, map, filter, flat_map, Option, codes, if◌then◌else◌}
use Rattle.std.specs.List.{list_any, range_with_len}
use Rattle.dag_graph.specs.Graph.{children_of}
use Rattle.run_plan.specs.Plan.{Plan, node_at, count_of}
use Rattle.status_report.specs.declared.status.Status.{Status}
use Rattle.status_report.specs.Text.{reported}
use Rattle.graph_text.specs.Names.{quoted_label}
use Rattle.graph_text.specs.Picture.{frame_text, attributes_text, edge_line, graph_head}
use Rattle.graph_text.specs.Folding.{IsFolding}
use Rattle.graph_text.specs.Tallies.{box_tally_of, colour_text, box_label}

-- the nodes of a class below n, in plan order
abbrev pub members_below : (class_of : ℕ → ℕ) → (n first : ℕ) → List ℕ
members_below class_of n first = filter (λ m. class_of m == first) (range_with_len 0 n)

-- the line of the box of these nodes, which goes by the full name of the first
abbrev pub box_line : Plan → (ℕ → Option Status) → ℕ → List ℕ → List ℕ
box_line plan states first members =
    let name = (node_at plan first).name in
    let tally = box_tally_of (map states members) in
    codes "    " ++ (quoted_label name ++ attributes_text (box_label name tally) (frame_text plan first) (colour_text tally))

-- the box of the class of which this node is the first; none where it is not the first of a class
abbrev pub box_at : Plan → (class_of : ℕ → ℕ) → (ℕ → Option Status) → ℕ → List ℕ
box_at plan class_of states node =
    if class_of node == node then box_line plan states node (members_below class_of (reported plan) node) else []

-- the box of each class whose first node is below n, in plan order
abbrev pub box_lines : Plan → (class_of : ℕ → ℕ) → (ℕ → Option Status) → ℕ → List ℕ
box_lines plan class_of states zero = []
box_lines plan class_of states (suc n) = box_lines plan class_of states n ++ box_at plan class_of states n

-- a node of the first class has a child in the second
abbrev pub is_box_edge : Plan → (class_of : ℕ → ℕ) → (first second : ℕ) → Bool
is_box_edge plan class_of first second =
    list_any (λ n. (class_of n == first) && list_any (λ m. class_of m == second) (children_of plan.graph.dag n)) (range_with_len 0 (count_of plan))

-- the classes that have a child of this one, ascending and each once
abbrev pub box_children : Plan → (class_of : ℕ → ℕ) → ℕ → List ℕ
box_children plan class_of first = filter (is_box_edge plan class_of first) (range_with_len 0 (count_of plan))

-- the edges from the class of which this node is the first; none where it is not the first of a class
abbrev pub box_edges_at : Plan → (class_of : ℕ → ℕ) → ℕ → List ℕ
box_edges_at plan class_of node =
    if class_of node == node then flat_map (edge_line plan node) (box_children plan class_of node) else []

-- the edges from the classes whose first node is below n, each pair of classes once, in plan order
abbrev pub box_edges : Plan → (class_of : ℕ → ℕ) → ℕ → List ℕ
box_edges plan class_of zero = []
box_edges plan class_of (suc n) = box_edges plan class_of n ++ box_edges_at plan class_of n

-- The text of the picture of a plan that is folded by these classes and whose nodes stand so: a box for each class, in the order of their first
-- nodes, and each edge between two classes once.
abbrev pub folded_text_of : Plan → (class_of : ℕ → ℕ) → (ℕ → Option Status) → List ℕ
folded_text_of plan class_of states =
    graph_head ++ (box_lines plan class_of states (reported plan) ++ (box_edges plan class_of (count_of plan) ++ codes "}\n"))

-- This is the text of a picture of a plan that is folded by some classes by which it may be.
pub record IsFoldedText (plan : Plan) (states : ℕ → Option Status) (text : List ℕ) : Type 0 where
  pub class_of : ℕ → ℕ
  pub folding : IsFolding plan class_of
  pub text_is : text ≡ folded_text_of plan class_of states
