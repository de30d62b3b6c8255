use Rattle.std.proofs.Common.{◌<◌, suc, ap, arith}
use Rattle.run_plan.specs.Plan.{count_of}
use Rattle.sched_core.specs.Core.{Progress}
use Rattle.sched_core.proofs.Queues.{state-shown}
use Rattle.sched_core.proofs.scheduler.Core.state_of.Goals as goal

pub returns : goal.returns
returns c =
    let same = ap (λ (v : Progress). count_of v.plan) c.self.view_is in let le = c.requires in
    let w : c.args.node < suc (count_of c.self.inside.plan.now) = omega (arith, same, le) in
    rw (← c.self.view_is) (state-shown _ c.graph-graph.ensures.made _ c.self.inside.states c.self.inside.aborted c.self.inside.jobs c.self.invariant.shows c.self.invariant.noted.are_notes c.self.invariant.left
    c.args.node c.read.result w c.read.ensures)
