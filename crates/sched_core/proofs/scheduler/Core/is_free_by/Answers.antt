use Rattle.std.proofs.Common.{◌≡◌, ◌∙◌, not, ap, sym, Some}
use Rattle.node_machine.specs.NodeProgress.{NodeProgress}
use Rattle.sched_core.specs.Run.{next}
use Rattle.sched_core.proofs.Leaf.{free-shown}
use Rattle.sched_core.proofs.scheduler.Core.is_free_by.Goals as goal

pub returns-in-Some : goal.returns-in-Some
returns-in-Some c =
    let some : next c.args.self.now.plan c.args.self.now.past c.args.node ≡ Some c.in-Some.field-0 = cc (c.in-Some.ensures) in
    ap not (c.is_running.ensures ∙ ap (λ (r : NodeProgress). r.running) c.requires.state.run)
    ∙ sym (free-shown c.args.self.now.plan c.args.self.now.past c.keeps_the_law.ensures c.args.node c.in-Some.field-0 some)
