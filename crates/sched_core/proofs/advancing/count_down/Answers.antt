use Rattle.std.proofs.Common.{◌≡◌, ◌+◌, ◌-◌, ◌∙◌, ◌≤◌, ℕ, List, get_or, drop, ap, sym, subst, slice_set, arith, refl}
use Rattle.dag_graph.specs.Graph.{Network, children_of}
use Rattle.sched_core.specs.Core.{idle}
use Rattle.sched_core.specs.Notes.{no_notes}
use Rattle.sched_core.specs.Turns.{times}
use Rattle.sched_core.specs.States.{NodeStates, left_at}
use Rattle.sched_core.proofs.Turning.{child-below, count-room, count-step, put-own}
use Rattle.sched_core.proofs.advancing.count_down.Goals as goal

pub look-looked-requires-clause-runs : goal.look-looked-requires-clause-runs
look-looked-requires-clause-runs c =
    let low = child-below c.args.plan.now c.graph-graph.ensures.made c.args.node c.loop-child.child-index c.children-child-items.result.now
    (c.children-child-items.ensures ∙ ap (λ (g : Network). children_of g.dag c.args.node) c.graph-graph.ensures.is) c.loop-child-test.true in
    let many = c.loop-child.invariant.many.runs in omega (arith, low, many)

pub look-looked-requires-clause-notes : goal.look-looked-requires-clause-notes
look-looked-requires-clause-notes c =
    let low = child-below c.args.plan.now c.graph-graph.ensures.made c.args.node c.loop-child.child-index c.children-child-items.result.now
    (c.children-child-items.ensures ∙ ap (λ (g : Network). children_of g.dag c.args.node) c.graph-graph.ensures.is) c.loop-child-test.true in
    let many = c.loop-child.invariant.many.notes in omega (arith, low, many)

pub look-looked-requires-clause-left : goal.look-looked-requires-clause-left
look-looked-requires-clause-left c =
    let low = child-below c.args.plan.now c.graph-graph.ensures.made c.args.node c.loop-child.child-index c.children-child-items.result.now
    (c.children-child-items.ensures ∙ ap (λ (g : Network). children_of g.dag c.args.node) c.graph-graph.ensures.is) c.loop-child-test.true in
    let many = c.loop-child.invariant.many.left in omega (arith, low, many)

pub is_ready_by-was-requires : goal.is_ready_by-was-requires
is_ready_by-was-requires c =
    let low = child-below c.args.plan.now c.graph-graph.ensures.made c.args.node c.loop-child.child-index c.children-child-items.result.now
    (c.children-child-items.ensures ∙ ap (λ (g : Network). children_of g.dag c.args.node) c.graph-graph.ensures.is) c.loop-child-test.true in
    omega (arith, low)

pub overflow_sub-looked : goal.overflow_sub-looked
overflow_sub-looked c =
    let are : c.children-child-items.result.now ≡ children_of c.args.plan.now.graph.dag c.args.node =
    c.children-child-items.ensures ∙ ap (λ (g : Network). children_of g.dag c.args.node) c.graph-graph.ensures.is in
    let room = count-room c.args.states.now.left c.loop-child.states.left c.children-child-items.result.now c.loop-child.child-index (get_or c.children-child-items.result.now c.loop-child.child-index 0) refl
    c.loop-child-test.true c.loop-child.invariant.left (subst (λ xs. (k : ℕ) → times k xs ≤ left_at c.args.states.now.left k) (sym are) c.requires.enough) in
    let is = c.look-looked.ensures.state.left in omega (arith, room, is)

pub settle-requires-clause-node : goal.settle-requires-clause-node
settle-requires-clause-node c =
    let low = child-below c.args.plan.now c.graph-graph.ensures.made c.args.node c.loop-child.child-index c.children-child-items.result.now
    (c.children-child-items.ensures ∙ ap (λ (g : Network). children_of g.dag c.args.node) c.graph-graph.ensures.is) c.loop-child-test.true in
    let at = c.look-looked.ensures.node in omega (arith, low, at)

pub loop-child-preserved : goal.loop-child-preserved
loop-child-preserved c =
    let items = c.children-child-items.result.now in let i = c.loop-child.child-index in
    let child = get_or items i 0 in
    let states = c.loop-child.states in
    let low = child-below c.args.plan.now c.graph-graph.ensures.made c.args.node i items
    (c.children-child-items.ensures ∙ ap (λ (g : Network). children_of g.dag c.args.node) c.graph-graph.ensures.is) c.loop-child-test.true in
    let many = c.loop-child.invariant.many in
    let many_runs = many.runs in let many_notes = many.notes in let many_left = many.left in
    let same = c.look-looked.ensures.others in
    let at = c.look-looked.ensures.node in
    let now = c.settle.ensures.states in
    let state = c.look-looked.ensures.state in
    let looks = c.look-looked.ensures.looks in
    let before = c.loop-child.invariant.looks in
    let settled_looks = ap (λ (s : NodeStates). s.looks) now in
    let are : items ≡ children_of c.args.plan.now.graph.dag c.args.node =
    c.children-child-items.ensures ∙ ap (λ (g : Network). children_of g.dag c.args.node) c.graph-graph.ensures.is in
    let room = count-room c.args.states.now.left states.left items i child refl
    c.loop-child-test.true c.loop-child.invariant.left (subst (λ xs. (k : ℕ) → times k xs ≤ left_at c.args.states.now.left k) (sym are) c.requires.enough) in
    let own = state.left in
    let less : (c.look-looked.result.state.parents_left - 1) + 1 ≡ left_at states.left child = omega (arith, room, own) in
    let left : c.settle.new.states.left ≡ slice_set states.left child (c.look-looked.result.state.parents_left - 1) =
    ap (λ (s : NodeStates). s.left) now ∙ (λ j. slice_set (same j).left (at j) (c.look-looked.result.state.parents_left - 1)) in
    record {
      many = c.settle.ensures.many;
      queued = c.settle.ensures.queued;
      runs = ap (λ (s : NodeStates). s.runs) now
          ∙ put-own states.runs c.look-looked.new.self.runs child c.look-looked.result.node c.look-looked.result.state.run idle (ap (λ (s : NodeStates). s.runs) same) at state.run (omega (arith, low, many_runs))
          ∙ c.loop-child.invariant.runs;
      notes = ap (λ (s : NodeStates). s.notes) now
          ∙ put-own states.notes c.look-looked.new.self.notes child c.look-looked.result.node c.look-looked.result.state.notes (no_notes 0) (ap (λ (s : NodeStates). s.notes) same) at state.notes (omega (arith, low, many_notes))
          ∙ c.loop-child.invariant.notes;
      left = subst (λ (xs : List ℕ). (k : ℕ) → left_at xs k + times k items ≡ left_at c.args.states.now.left k + times k (drop (i + 1) items)) (sym left)
          (count-step c.args.states.now.left states.left items i child (c.look-looked.result.state.parents_left - 1) refl c.loop-child-test.true (omega (arith, low, many_left)) less c.loop-child.invariant.left);
      looks = omega (arith, looks, before, settled_looks);
    }
