use Rattle.std.proofs.Common.{◌≡◌, ◌≤◌, ◌-◌, true, length, take}
use Rattle.sched_core.proofs.Ended.{goes_on}
use Rattle.sched_core.proofs.scheduler.Core.ends_fit.Given as goal

abbrev pub invariant-loop-place : goal.invariant-loop-place
invariant-loop-place l = record {
  inside : l.place ≤ length l.ends;
  on : goes_on l.self.plan l.self.past (take l.place l.ends) ≡ true;
}

abbrev pub decreases-loop-place : goal.decreases-loop-place
decreases-loop-place l = length l.ends - l.place
