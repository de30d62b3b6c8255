use Rattle.std.proofs.Common.{◌≡◌, ◌⊎◌, IsTrue, IsFalse}
use Rattle.sched_core.specs.Run.{is_aborted, is_open}
use Rattle.sched_core.specs.Bound.{records_left}
use Rattle.recovery_manager.specs.Managed.{plan_of, past_of}
use Rattle.job_starter_drive.specs.Calls.{is_halt_seen}
use Rattle.job_starter_drive.specs.Drives.{limits_of, at_rest, AreInStep, IsNearerEnd, Starts}
use Rattle.job_starter_drive.specs.Stretches.{IsStretch}
use Rattle.job_starter_drive.proofs.rounds.launch_rounds.Given as goal

abbrev pub invariant-loop-keys : goal.invariant-loop-keys
invariant-loop-keys g l =
    IsStretch g.D.Disk
    (limits_of l.initial.manager) (plan_of l.initial.manager) (g.S.Starter.may_return l.initial.starter) (g.S.Starter.may_return l.starter) (g.S.Starter.faults l.initial.starter) (g.S.Starter.faults l.starter) l.initial.manager l.manager
    (at_rest (past_of l.initial.manager) (g.S.Starter.call_log l.initial.starter)) (at_rest (past_of l.manager) (g.S.Starter.call_log l.starter))
    × AreInStep (plan_of l.initial.manager) (past_of l.manager) (g.S.Starter.call_log l.starter)
    × IsTrue (is_open (past_of l.manager))
    × (is_aborted (plan_of l.initial.manager) (past_of l.manager) ≡ is_aborted (plan_of l.initial.manager) (past_of l.initial.manager))
    × ((past_of l.manager ≡ past_of l.initial.manager) ⊎ IsNearerEnd (plan_of l.initial.manager) (past_of l.initial.manager) (past_of l.manager))
    × Starts (g.S.Starter.call_log l.initial.starter) (g.S.Starter.call_log l.starter)
    × IsFalse (is_halt_seen (g.S.Starter.call_log l.starter))

abbrev pub decreases-loop-keys : goal.decreases-loop-keys
decreases-loop-keys g l = records_left (plan_of l.initial.manager) (past_of l.manager)
