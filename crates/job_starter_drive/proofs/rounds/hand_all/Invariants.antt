use Rattle.std.proofs.Common.{◌≤◌, ◌-◌, [], drop, length}
use Rattle.std.specs.Vec.{vec_capacity}
use Rattle.recovery_manager.specs.Managed.{plan_of, past_of}
use Rattle.job_starter_drive.specs.Drives.{limits_of, At, AreUnderWay, Starts}
use Rattle.job_starter_drive.specs.Stretches.{IsStretch}
use Rattle.job_starter_drive.proofs.rounds.hand_all.Given as goal

abbrev pub invariant-loop-place : goal.invariant-loop-place
invariant-loop-place g l =
    (l.place ≤ length l.keys)
    × (length l.owed.items ≤ l.place)
    × (vec_capacity l.initial.owed ≤ vec_capacity l.owed)
    × AreUnderWay (plan_of l.manager) (past_of l.manager) (g.S.Starter.call_log l.starter) (drop l.place l.keys) l.owed.items
    × IsStretch g.D.Disk
    (limits_of l.manager) (plan_of l.manager) (g.S.Starter.may_return l.initial.starter) (g.S.Starter.may_return l.starter) (g.S.Starter.faults l.initial.starter) (g.S.Starter.faults l.starter) l.manager l.manager
    (At (past_of l.manager) (g.S.Starter.call_log l.initial.starter) l.keys []) (At (past_of l.manager) (g.S.Starter.call_log l.starter) (drop l.place l.keys) l.owed.items)
    × Starts (g.S.Starter.call_log l.initial.starter) (g.S.Starter.call_log l.starter)

abbrev pub decreases-loop-place : goal.decreases-loop-place
decreases-loop-place g l = length l.keys - l.place
