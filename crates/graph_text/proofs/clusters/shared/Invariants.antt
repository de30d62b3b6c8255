use Rattle.std.proofs.Common.{◌≡◌, ◌≤◌, ◌+◌, ◌-◌, map, length, drop}
use Rattle.graph_text.specs.Clusters.{shared}
use Rattle.graph_text.proofs.clusters.shared.Given as goal

abbrev pub invariant-loop-count : goal.invariant-loop-count
invariant-loop-count l =
    (l.count ≤ length l.before) × (l.count ≤ length l.scope)
    × (shared (map (λ part. part.now) l.before) (map (λ part. part.now) l.scope)
    ≡ l.count + shared (drop l.count (map (λ part. part.now) l.before)) (drop l.count (map (λ part. part.now) l.scope)))

abbrev pub decreases-loop-count : goal.decreases-loop-count
decreases-loop-count l = length l.before - l.count
