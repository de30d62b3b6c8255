use Rattle.std.proofs.Common.{◌≡◌, ◌≤◌, ◌-◌, true, length, take, drop}
use Rattle.sched_core.specs.Ahead.{launched, may_launch_all}
use Rattle.sched_core.proofs.scheduler.Core.launches_fit.Given as goal

abbrev pub invariant-loop-place : goal.invariant-loop-place
invariant-loop-place l = record {
  inside : l.place ≤ length l.keys;
  front : may_launch_all l.self.plan l.self.past (take l.place l.keys) ≡ true;
  same : may_launch_all l.self.plan l.self.past l.keys ≡ may_launch_all l.self.plan (launched l.self.past (take l.place l.keys)) (drop l.place l.keys);
}

abbrev pub decreases-loop-place : goal.decreases-loop-place
decreases-loop-place l = length l.keys - l.place
