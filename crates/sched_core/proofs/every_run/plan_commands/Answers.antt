use Rattle.sched_core.proofs.EveryRuns.{plan-plain}
use Rattle.sched_core.proofs.every_run.plan_commands.Goals as goal

pub returns : goal.returns
returns c plan records lawful node sound plain = plan-plain plan records lawful node sound plain
