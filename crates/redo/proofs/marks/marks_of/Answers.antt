use Rattle.std.proofs.Common.{◌≡◌, ℕ, [], ◌∷◌, ◌++◌, map, ap, sym, ◌∙◌, arith}
use Rattle.std.specs.List.{range_with_len}
use Rattle.std.proofs.lemmas.List.FromFn.{map-range_with_len_more}
use Rattle.run_plan.specs.Plan.{count_of}
use Rattle.redo.specs.Redone.{stays_done}
use Rattle.redo.proofs.marks.marks_of.Goals as goal

pub loop-node-preserved : goal.loop-node-preserved
loop-node-preserved c =
    let n = c.loop-node.node in
    c.in_ok-push.ensures.items
    ∙ (λ j. c.loop-node.invariant j ++ c.stays_done.ensures j ∷ [])
    ∙ sym (map-range_with_len_more (stays_done c.args.core.now.plan c.args.core.now.past c.args.again.now) 0 n n (omega arith))

pub returns : goal.returns
returns c =
    let e = c.count-node-end.ensures.is in
    let f = c.loop-node.auto.node-end in
    let g = c.loop-node-test.false in
    let same : count_of c.plan.result.now ≡ count_of c.args.core.now.plan = ap count_of c.plan.ensures in
    let n : c.loop-node.node ≡ count_of c.args.core.now.plan = omega (arith, e, f, g, same) in
    c.loop-node.invariant ∙ ap (λ (k : ℕ). map (stays_done c.args.core.now.plan c.args.core.now.past c.args.again.now) (range_with_len 0 k)) n
