use Rattle.std.proofs.Common.{◌≡◌, ◌++◌, take, flat_map, string_bytes}
use Rattle.dag_graph.specs.Graph.{children_of}
use Rattle.graph_text.specs.Picture.{edge_line}
use Rattle.graph_text.proofs.picture.push_edges_from.Given as goal

abbrev pub invariant-loop-child : goal.invariant-loop-child
invariant-loop-child l =
    string_bytes l.text ≡ string_bytes l.fn.text ++ flat_map (edge_line l.plan l.parent) (take l.child-index (children_of l.plan.graph.dag l.parent))
