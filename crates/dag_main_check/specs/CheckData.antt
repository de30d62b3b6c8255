-- What `check` answers as JSON.
use Rattle.std.specs.Prelude.{ℕ, List, ◌++◌, length, is_some, codes}
use Rattle.splices_flat.specs.Dag.{Dag}
use Rattle.dag_graph.specs.Graph.{edge_count_of}
use Rattle.serde_json.specs.Data.{Data, boolean, number, unsigned, string, object, no_members, member}
use Rattle.serde_json.specs.Written.{compact_text}

-- The path of the DAG file as it was given, the distinct pairs of a parent and a child, whether there is a FINAL node, and the ordinary nodes.
abbrev pub check_data : List ℕ → Dag → Data
check_data path dag =
    object
    (member (codes "dag") (string path)
    (member (codes "edges") (number (unsigned (edge_count_of dag)))
    (member (codes "final") (boolean (is_some dag.final_node)) (member (codes "nodes") (number (unsigned (length dag.nodes))) no_members))))

-- the text of these, with no space between its parts, and the end of its line
abbrev pub check_json_of : List ℕ → Dag → List ℕ
check_json_of path dag = compact_text (check_data path dag) ++ codes "\n"
