use Rattle.std.proofs.Common.{◌≡◌, ◌∙◌, ap, sym, arith}
use Rattle.node_machine.specs.NodeRun.{stopped}
use Rattle.sched_core.specs.Core.{idle, run_at}
use Rattle.sched_core.specs.Notes.{no_notes}
use Rattle.sched_core.specs.States.{NodeStates}
use Rattle.sched_core.proofs.Turning.{put-own, idle-stopped}
use Rattle.sched_core.proofs.advancing.stop_other.Goals as goal

pub returns-then-other-node-clause-runs : goal.returns-then-other-node-clause-runs
returns-then-other-node-clause-runs c =
    let runs = c.args.states.now.runs in
    let at : c.args.other ≡ c.args.node = c.if-other-node.true in
    let w = c.requires.other in let many = c.requires.many.runs in
    sym (put-own runs runs c.args.other c.args.other (stopped (run_at runs c.args.other)) idle (λ j. runs) (λ j. c.args.other)
    (sym (idle-stopped (run_at runs c.args.other) (ap (λ n. (run_at runs n).running) at ∙ c.requires.own))) (omega (arith, w, many)))

pub returns-clause-notes : goal.returns-clause-notes
returns-clause-notes c =
    let w = c.requires.other in let many = c.requires.many.notes in
    ap (λ (s : NodeStates). s.notes) c.put.ensures
    ∙ put-own c.args.states.now.notes c.look-looked.new.self.notes c.args.other c.look-looked.result.node c.look-looked.result.state.notes (no_notes 0)
    (ap (λ (s : NodeStates). s.notes) c.look-looked.ensures.others) c.look-looked.ensures.node c.look-looked.ensures.state.notes (omega (arith, w, many))

pub returns-clause-left : goal.returns-clause-left
returns-clause-left c =
    let w = c.requires.other in let many = c.requires.many.left in
    ap (λ (s : NodeStates). s.left) c.put.ensures
    ∙ put-own c.args.states.now.left c.look-looked.new.self.left c.args.other c.look-looked.result.node c.look-looked.result.state.parents_left 0
    (ap (λ (s : NodeStates). s.left) c.look-looked.ensures.others) c.look-looked.ensures.node c.look-looked.ensures.state.left (omega (arith, w, many))
