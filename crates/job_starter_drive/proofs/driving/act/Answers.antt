use Rattle.std.proofs.Common.{subst, inl}
use Rattle.sched_core.specs.Choices.{IsChoice}
use Rattle.recovery_manager.specs.Managed.{plan_of, past_of}
use Rattle.job_starter_drive.specs.Drives.{limits_of}
use Rattle.job_starter_drive.proofs.driving.act.Goals as goal

pub returns-in-Start-clause-nearer : goal.returns-in-Start-clause-nearer
returns-in-Start-clause-nearer g c =
    c.launch_or_hold.ensures.nearer c.in-Start.field-0 (subst (IsChoice (limits_of c.args.manager.now) (plan_of c.args.manager.now) (past_of c.args.manager.now)) c.in-Start.is c.requires.chosen)
