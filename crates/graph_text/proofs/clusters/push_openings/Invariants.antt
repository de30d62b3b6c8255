use Rattle.std.proofs.Common.{◌≡◌, ◌++◌, map, drop, string_bytes}
use Rattle.graph_text.specs.Clusters.{openings}
use Rattle.graph_text.proofs.clusters.push_openings.Given as goal

abbrev pub invariant-loop-depth : goal.invariant-loop-depth
invariant-loop-depth l =
    string_bytes l.text ++ openings l.node l.depth (drop l.depth (map (λ part. part.now) l.scope))
    ≡ string_bytes l.fn.text ++ openings l.node l.from (drop l.from (map (λ part. part.now) l.scope))
