use Rattle.std.proofs.Common.{◌≡◌, true, take}
use Rattle.std.specs.List.{list_all}
use Rattle.sched_core.specs.Fate.{is_done_state}
use Rattle.fate_audit.specs.Fates.{fate_at}
use Rattle.fate_audit.proofs.predictions.are_done.Given as goal

abbrev pub invariant-loop-node : goal.invariant-loop-node
invariant-loop-node l = list_all (λ node. is_done_state (fate_at l.fates node).state) (take l.node-index l.nodes) ≡ true
