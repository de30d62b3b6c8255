use Rattle.std.proofs.Common.{◌≡◌, ◌≤◌, ◌-◌, suc, length, take}
use Rattle.sched_core.specs.Run.{job_launches}
use Rattle.sched_core.specs.Ahead.{launched, launches}
use Rattle.sched_core.proofs.scheduler.Core.launches.Given as goal

abbrev pub invariant-loop-place : goal.invariant-loop-place
invariant-loop-place l = record {
  inside : l.place ≤ length l.keys;
  entries : l.entries.items ≡ launches l.self.past (take l.place l.keys);
  number : l.number ≡ suc (job_launches (launched l.self.past (take l.place l.keys)));
}

abbrev pub decreases-loop-place : goal.decreases-loop-place
decreases-loop-place l = length l.keys - l.place
