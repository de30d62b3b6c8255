use Rattle.std.proofs.Common.{◌≡◌, ◌++◌, map, string_bytes}
use Rattle.graph_text.specs.Names.{splices_among}
use Rattle.graph_text.specs.Picture.{drawn_plan, states_of, scope_before, node_lines}
use Rattle.graph_text.proofs.picture.push_nodes.Given as goal

abbrev pub invariant-loop-node : goal.invariant-loop-node
invariant-loop-node l =
    (string_bytes l.text ≡ string_bytes l.fn.text ++ node_lines (drawn_plan l.drawn) (states_of l.drawn) l.node)
    × (splices_among (map (λ part. part.now) l.before.items) ≡ scope_before (drawn_plan l.drawn) l.node)
