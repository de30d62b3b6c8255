use Rattle.std.proofs.Common.{◌≡◌, ◌≤◌, ◌<◌, ◌-◌, [], length, true, false}
use Rattle.std.specs.Vec.{vec_capacity}
use Rattle.recovery_manager.specs.Managed.{plan_of, past_of}
use Rattle.job_starter_drive.specs.Calls.{AllowsNoMore}
use Rattle.job_starter_drive.specs.Drives.{limits_of, most_at_once, At, AreUnderWay, IsHeld, none_aborts, Goes}
use Rattle.job_starter_drive.proofs.driving.gather.Given as goal

abbrev pub invariant-loop-aborts : goal.invariant-loop-aborts
invariant-loop-aborts g l = record {
  some : 0 < length l.owed.items;
  room : vec_capacity l.initial.owed ≤ vec_capacity l.owed;
  on : l.aborts ≡ false → none_aborts (plan_of l.manager) (past_of l.manager) l.owed.items ≡ true;
  held : IsHeld (limits_of l.manager) (plan_of l.manager) (past_of l.manager) (g.S.Starter.call_log l.starter);
  under_way : AreUnderWay (plan_of l.manager) (past_of l.manager) (g.S.Starter.call_log l.starter) [] l.owed.items;
  steps : Goes (limits_of l.manager) (plan_of l.manager) (g.S.Starter.may_return l.initial.starter)
      (At (past_of l.manager) (g.S.Starter.call_log l.initial.starter) [] l.initial.owed.items)
      (At (past_of l.manager) (g.S.Starter.call_log l.starter) [] l.owed.items);
  counts : g.S.Starter.faults l.starter ≡ g.S.Starter.faults l.initial.starter;
  may : AllowsNoMore (g.S.Starter.may_return l.initial.starter) (g.S.Starter.may_return l.starter);
}

abbrev pub decreases-loop-aborts : goal.decreases-loop-aborts
decreases-loop-aborts g l = most_at_once - length l.owed.items
