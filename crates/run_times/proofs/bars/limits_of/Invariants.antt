use Rattle.std.proofs.Common.{◌≡◌, ◌≤◌, length}
use Rattle.run_times.specs.Bars.{AreBarLimits, AreNext}
use Rattle.run_times.proofs.bars.limits_of.Given as goal

abbrev pub invariant-loop-place : goal.invariant-loop-place
invariant-loop-place l = record {
  within : l.place ≤ length l.runs;
  slots : length l.next.items ≡ l.slots.count;
  each : length l.limits.items ≡ length l.runs;
  limits : AreBarLimits l.canvas l.runs l.slots.of.items l.limits.items l.place;
  next : AreNext l.canvas l.runs l.slots.of.items l.next.items l.place;
}

abbrev pub decreases-loop-place : goal.decreases-loop-place
decreases-loop-place l = l.place
