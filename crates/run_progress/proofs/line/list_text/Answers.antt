use Rattle.std.proofs.Common.{arith}
use Rattle.std.proofs.lemmas.Grind.{common_steps}
use Rattle.std.proofs.lemmas.List.{take-map}
use Rattle.run_progress.proofs.line.list_text.Goals as goal
use Rattle.run_progress.proofs.line.list_text.Goals.{then-count-running, else-count-running}

pub returns : goal.returns
returns c =
    let split = c.in-Some.ensures.cases in
    elim c.if-count-running.branch [ then-count-running w ↦ grind (arith, common_steps, take-map, split.0) | else-count-running w ↦ grind (arith, common_steps, take-map, split.0) ]
