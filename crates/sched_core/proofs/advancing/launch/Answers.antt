use Rattle.std.proofs.Common.{rules, ◌≡◌, ◌∙◌, List, ap, sym, subst, slice_set}
use Rattle.node_machine.specs.NodeProgress.{NodeProgress}
use Rattle.node_machine.specs.NodeRun.{started}
use Rattle.sched_core.specs.Core.{run_at}
use Rattle.sched_core.specs.States.{NodeStates, AreLeft}
use Rattle.sched_core.proofs.Turning.{left-launched}
use Rattle.sched_core.proofs.advancing.launch.Goals as goal

pub returns-clause-left : goal.returns-clause-left
returns-clause-left c =
    let plan = c.args.plan.now in let states = c.args.states.now in let node = c.args.key.node in
    let left : c.settle.new.states.left ≡ slice_set states.left node c.args.looked.state.parents_left =
    ap (λ (s : NodeStates). s.left) c.settle.ensures.states ∙ ap (λ n. slice_set states.left n c.args.looked.state.parents_left) c.requires.lent.place in
    let ran : c.settle.new.states.runs ≡ slice_set states.runs node (started (run_at states.runs node)) = search rules in
    subst (AreLeft plan c.args.aborted c.settle.new.states.runs) (sym left)
    (subst (λ (rs : List NodeProgress). AreLeft plan c.args.aborted rs (slice_set states.left node c.args.looked.state.parents_left)) (sym ran)
    (left-launched plan c.args.aborted states.runs states.left node c.args.looked.state.parents_left c.graph-graph.ensures.made c.requires.left c.requires.lent.within c.requires.many.runs c.requires.lent.left))
