use Rattle.std.proofs.Common.{◌≡◌, take}
use Rattle.run_times.specs.Soonest.{last_end_of}
use Rattle.run_times.proofs.soonest.last_end_of.Given as goal

abbrev pub invariant-loop-node : goal.invariant-loop-node
invariant-loop-node l = l.last ≡ last_end_of l.ends (take l.node-index l.nodes)
