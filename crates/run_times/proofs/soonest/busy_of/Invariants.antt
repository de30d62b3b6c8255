use Rattle.std.proofs.Common.{◌≡◌, ℕ, ◌+◌, ◌≤◌, length, get_or, take}
use Rattle.run_times.specs.Soonest.{busy_of}
use Rattle.run_times.proofs.soonest.busy_of.Given as goal

abbrev pub invariant-loop-run : goal.invariant-loop-run
invariant-loop-run l = record {
  each : length l.busy.items ≡ length l.graph.dag.nodes + 1;
  are : (number : ℕ) → number ≤ length l.graph.dag.nodes → get_or l.busy.items number 0 ≡ busy_of l.graph (take l.run-index l.runs) number;
}
