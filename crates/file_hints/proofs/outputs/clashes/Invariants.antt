use Rattle.std.proofs.Common.{[], ◌++◌, List, drop, take}
use Rattle.file_hints.specs.Outputs.{AreClashes}
use Rattle.file_hints.specs.declared.outputs.Clash.{Clash}
use Rattle.file_hints.proofs.outputs.clashes.Given as goal

abbrev pub invariant-loop-at : goal.invariant-loop-at
invariant-loop-at l =
    (more : List Clash) → AreClashes l.graph.dag.edges (take l.at l.writers) (drop l.at l.writers) more → AreClashes l.graph.dag.edges [] l.writers (l.found.items ++ more)
