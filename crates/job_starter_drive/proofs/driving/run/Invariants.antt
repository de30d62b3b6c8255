use Rattle.std.proofs.Common.{◌≤◌, IsTrue}
use Rattle.std.specs.Vec.{vec_capacity}
use Rattle.sched_core.specs.Run.{is_open}
use Rattle.sched_core.specs.Bound.{records_left}
use Rattle.recovery_manager.specs.Managed.{plan_of, past_of}
use Rattle.job_starter_drive.specs.Drives.{limits_of, most_at_once, at_rest, AreInStep}
use Rattle.job_starter_drive.specs.Stretches.{IsStretch}
use Rattle.job_starter_drive.proofs.driving.run.Given as goal

abbrev pub invariant-loop-verdict : goal.invariant-loop-verdict
invariant-loop-verdict g l =
    IsStretch g.D.Disk
    (limits_of l.initial.manager) (plan_of l.initial.manager) (g.S.Starter.may_return l.initial.starter) (g.S.Starter.may_return l.starter) (g.S.Starter.faults l.initial.starter) (g.S.Starter.faults l.starter) l.initial.manager l.manager
    (at_rest (past_of l.initial.manager) (g.S.Starter.call_log l.initial.starter)) (at_rest (past_of l.manager) (g.S.Starter.call_log l.starter))
    × AreInStep (plan_of l.initial.manager) (past_of l.manager) (g.S.Starter.call_log l.starter)
    × IsTrue (is_open (past_of l.manager))
    × (most_at_once ≤ vec_capacity l.owed)

abbrev pub decreases-loop-verdict : goal.decreases-loop-verdict
decreases-loop-verdict g l = records_left (plan_of l.initial.manager) (past_of l.manager)
