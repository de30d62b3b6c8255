use Rattle.std.proofs.Common.{◌≡◌, ◌≤◌, map, length}
use Rattle.run_progress.specs.Line.{longest_list}
use Rattle.run_progress.proofs.line.longest_text.Given as goal

abbrev pub invariant-loop-count : goal.invariant-loop-count
invariant-loop-count l = record {
  within : l.count ≤ length l.nodes;
  same : longest_list (map (λ node. (node.name.now, node.seconds)) l.nodes) l.room l.running (length l.nodes)
      ≡ longest_list (map (λ node. (node.name.now, node.seconds)) l.nodes) l.room l.running l.count;
}

abbrev pub decreases-loop-count : goal.decreases-loop-count
decreases-loop-count l = l.count
