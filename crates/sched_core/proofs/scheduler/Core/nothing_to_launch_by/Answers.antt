use Rattle.std.proofs.Common.{◌∙◌, ◌&&◌, not}
use Rattle.sched_core.proofs.Queues.{nothing-launchable}
use Rattle.sched_core.proofs.scheduler.Core.nothing_to_launch_by.Goals as goal

pub returns : goal.returns
returns c =
    c.both.ensures ∙ (λ j. not (c.is_final_ready_by.ensures j) && c.nothing_ready.ensures j)
    ∙ nothing-launchable c.args.self.now.plan c.args.self.now.past
