use Rattle.std.proofs.Common.{◌∙◌, ◌&&◌, ap}
use Rattle.node_machine.specs.NodeProgress.{NodeProgress}
use Rattle.sched_core.specs.Run.{is_next}
use Rattle.sched_core.proofs.Moves.{among-shown}
use Rattle.sched_core.proofs.scheduler.Core.is_outstanding_by.Goals as goal

pub returns : goal.returns
returns c =
    c.both.ensures
    ∙ (λ j. (c.is_running.ensures ∙ ap (λ (r : NodeProgress). r.running) c.requires.state.run) j && (c.is_key.ensures ∙ (λ i. is_next (c.next_by.ensures i) c.args.key.now)) j)
    ∙ among-shown c.args.self.now.plan c.args.self.now.past c.args.key.now c.keeps_the_law.ensures
