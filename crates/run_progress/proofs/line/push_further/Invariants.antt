use Rattle.std.proofs.Common.{◌≡◌, ◌++◌, map, take, string_bytes}
use Rattle.run_progress.specs.Line.{further_nodes}
use Rattle.run_progress.proofs.line.push_further.Given as goal

abbrev pub invariant-loop-node : goal.invariant-loop-node
invariant-loop-node l = string_bytes l.text ≡ string_bytes l.fn.text ++ further_nodes (map (λ node. (node.name.now, node.seconds)) (take l.node-index l.nodes))
