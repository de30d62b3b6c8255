use Rattle.std.proofs.Common.{subst}
use Rattle.sched_core.specs.Core.{Progress}
use Rattle.sched_core.specs.Heads.{AreWaiting}
use Rattle.sched_core.proofs.Queues.{waiting-are}
use Rattle.sched_core.proofs.scheduler.Core.queue.Goals as goal

pub returns : goal.returns
returns c =
    subst (λ (v : Progress). AreWaiting v.plan v.past c.self.inside.queue.queues) c.self.view_is
    (waiting-are _ c.graph-graph.ensures.made _ c.self.inside.states c.self.inside.aborted c.self.inside.jobs c.self.invariant.shows c.self.invariant.noted.are_notes c.self.invariant.left
    c.self.inside.queue c.self.invariant.queued)
