use Rattle.std.proofs.Common.{◌≡◌, ◌≤◌, ◌-◌, length, drop}
use Rattle.sched_core.specs.Run.{is_among}
use Rattle.sched_core.specs.Ahead.{ended_in}
use Rattle.sched_core.proofs.nodes.has_ended.Given as goal

abbrev pub invariant-loop-place : goal.invariant-loop-place
invariant-loop-place l = record {
  inside : l.place ≤ length l.ends;
  same : is_among l.key (ended_in l.ends) ≡ is_among l.key (ended_in (drop l.place l.ends));
}

abbrev pub decreases-loop-place : goal.decreases-loop-place
decreases-loop-place l = length l.ends - l.place
