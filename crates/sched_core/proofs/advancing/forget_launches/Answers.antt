use Rattle.std.proofs.Common.{◌≡◌, ◌+◌, ◌∙◌, ◌≤◌, ℕ, List, false, ap, sym, subst, slice_set, arith}
use Rattle.node_machine.specs.NodeProgress.{NodeProgress}
use Rattle.node_machine.specs.NodeRun.{stopped}
use Rattle.sched_core.specs.Bound.{node_total}
use Rattle.sched_core.specs.Core.{run_at}
use Rattle.sched_core.specs.Notes.{no_notes}
use Rattle.sched_core.specs.States.{NodeStates}
use Rattle.sched_core.proofs.Turning.{past-all, stop-more, stopped-all, left-stopped, put-own, stopped_below}
use Rattle.sched_core.proofs.advancing.forget_launches.Goals as goal

pub loop-node-preserved : goal.loop-node-preserved
loop-node-preserved c =
    let node = c.loop-node.node in
    let states = c.loop-node.states in
    let test = c.loop-node-test.true in
    let most = c.count_all-node-end.ensures.most in
    let many = c.loop-node.invariant.many in
    let many_runs = many.runs in let many_notes = many.notes in let many_left = many.left in
    let same = c.look-looked.ensures.others in
    let at = c.look-looked.ensures.node in
    let now = c.settle.ensures.states in
    let state = c.look-looked.ensures.state in
    let looks = c.look-looked.ensures.looks in
    let before = c.loop-node.invariant.looks in
    let settled_looks = ap (λ (s : NodeStates). s.looks) now in
    let runs : c.settle.new.states.runs ≡ slice_set states.runs node (stopped (run_at states.runs node)) =
    ap (λ (s : NodeStates). s.runs) now ∙ (λ j. slice_set (same j).runs (at j) (c.forget_launch.ensures.stops j)) ∙ ap (λ (r : NodeProgress). slice_set states.runs node (stopped r)) state.run in
    record {
      many = c.settle.ensures.many;
      queued = c.settle.ensures.queued;
      runs = subst (λ (rs : List NodeProgress). (k : ℕ) → run_at rs k ≡ stopped_below c.args.states.now.runs (node + 1) k) (sym runs)
          (stop-more c.args.states.now.runs states.runs node (omega (arith, test, most, many_runs)) c.loop-node.invariant.runs);
      notes = ap (λ (s : NodeStates). s.notes) now
          ∙ put-own states.notes c.look-looked.new.self.notes node c.look-looked.result.node c.look-looked.result.state.notes (no_notes 0) (ap (λ (s : NodeStates). s.notes) same) at state.notes (omega (arith, test, most, many_notes))
          ∙ c.loop-node.invariant.notes;
      left = ap (λ (s : NodeStates). s.left) now
          ∙ put-own states.left c.look-looked.new.self.left node c.look-looked.result.node c.look-looked.result.state.parents_left 0 (ap (λ (s : NodeStates). s.left) same) at state.left (omega (arith, test, most, many_left))
          ∙ c.loop-node.invariant.left;
      looks = omega (arith, looks, before, settled_looks);
    }

pub returns-clause-runs : goal.returns-clause-runs
returns-clause-runs c =
    let plan = c.args.plan.now in let init = c.args.states.now.runs in
    let many = c.requires.many.runs in let many' = c.loop-node.invariant.many.runs in
    let test = c.loop-node-test.false in let is = c.count_all-node-end.ensures.is in
    let all : node_total plan ≤ c.loop-node.node = omega (arith, test, is) in
    stopped-all init c.loop-node.states.runs c.loop-node.node (omega (arith, many, many')) c.loop-node.invariant.runs
    (λ k ge lt. let none = past-all plan c.loop-node.node k all ge (omega (arith, lt, many)) in
    subst (λ n. (run_at init n).running ≡ false) none.1 (c.requires.idle none.0))

pub returns-clause-left : goal.returns-clause-left
returns-clause-left c =
    let plan = c.args.plan.now in let init = c.args.states.now.runs in
    let many = c.requires.many.runs in let many' = c.loop-node.invariant.many.runs in
    let test = c.loop-node-test.false in let is = c.count_all-node-end.ensures.is in
    let all : node_total plan ≤ c.loop-node.node = omega (arith, test, is) in
    left-stopped plan c.args.aborted init c.loop-node.states.runs c.args.states.now.left c.loop-node.states.left c.graph-graph.ensures.made c.requires.left
    (stopped-all init c.loop-node.states.runs c.loop-node.node (omega (arith, many, many')) c.loop-node.invariant.runs
    (λ k ge lt. let none = past-all plan c.loop-node.node k all ge (omega (arith, lt, many)) in
    subst (λ n. (run_at init n).running ≡ false) none.1 (c.requires.idle none.0)))
    c.loop-node.invariant.left
