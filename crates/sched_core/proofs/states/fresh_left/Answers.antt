use Rattle.std.proofs.Common.{◌≡◌, ◌+◌, ◌∙◌, ◌<◌, length, length-append, List, ◌++◌, ◌∷◌, [], ℕ, ap, sym, subst, arith}
use Rattle.run_plan_node.specs.declared.spec.NodeSpec.{NodeSpec}
use Rattle.run_plan.specs.Plan.{node_at, count_of}
use Rattle.sched_core.specs.States.{left_at, undone_in}
use Rattle.sched_core.proofs.Undone.{parents-few}
use Rattle.sched_core.proofs.Settling.{each-more, at-before}
use Rattle.sched_core.proofs.states.fresh_left.Goals as goal

pub count_undone-requires-clause-few : goal.count_undone-requires-clause-few
count_undone-requires-clause-few c =
    let lt : c.loop-node.node < count_of c.args.plan.now = (let e = c.count-node-end.ensures.is in let t = c.loop-node-test.true in omega (arith, e, t)) in
    let few = parents-few c.args.plan.now c.graph-graph.ensures.made c.loop-node.node lt in
    let is = ap (λ (l : List ℕ). length l) (c.parents.ensures ∙ ap (λ (s : NodeSpec). s.parents) c.spec.ensures.is) in
    omega (arith, few, is)

pub loop-node-preserved : goal.loop-node-preserved
loop-node-preserved c =
    let plan = c.args.plan.now in
    let items : c.push.new.self.items ≡ c.loop-node.left.items ++ c.count_undone.result ∷ [] = (c.in_ok-push.ensures).items in
    let long = length-append c.loop-node.left.items (c.count_undone.result ∷ []) in
    let same = ap (λ (l : List ℕ). length l) items in
    let before = c.loop-node.invariant.many in
    let now : c.count_undone.result ≡ undone_in (λ parent. (node_at plan parent).done) (node_at plan c.loop-node.node).parents =
    c.count_undone.ensures ∙ ap (undone_in (λ parent. (node_at plan parent).done)) (c.parents.ensures ∙ ap (λ (s : NodeSpec). s.parents) c.spec.ensures.is) in
    record {
      many = omega (arith, long, same, before);
      each = subst (λ (l : List ℕ). (k : ℕ) → k < c.loop-node.node + 1 → left_at l k ≡ undone_in (λ parent. (node_at plan parent).done) (node_at plan k).parents) (sym items)
          (each-more (λ k. undone_in (λ parent. (node_at plan parent).done) (node_at plan k).parents) c.loop-node.left.items c.count_undone.result 0 c.loop-node.node before c.loop-node.invariant.each now);
    }

pub returns : goal.returns
returns c =
    let items : c.push-2.new.self.items ≡ c.loop-node.left.items ++ 0 ∷ [] = (c.in_ok-push-2.ensures).items in
    let long = length-append c.loop-node.left.items (0 ∷ []) in
    let same = ap (λ (l : List ℕ). length l) items in
    let before = c.loop-node.invariant.many in
    let test = c.loop-node-test.false in
    let low = c.loop-node.auto.node-end in
    let e = c.count-node-end.ensures.is in
    let all : c.loop-node.node ≡ count_of c.args.plan.now = omega (arith, test, low, e) in
    record {
      many = omega (arith, long, same, before, all);
      each = λ k lt. ap (λ (l : List ℕ). left_at l k) items ∙ at-before c.loop-node.left.items 0 0 k (omega (arith, lt, before, all)) ∙ c.loop-node.invariant.each k (omega (arith, lt, all));
    }
