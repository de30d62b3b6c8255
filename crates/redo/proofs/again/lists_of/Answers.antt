use Rattle.std.proofs.Common.{◌≡◌, ℕ, suc, [], ◌∷◌, ◌++◌, map, ap, sym, ◌∙◌, arith}
use Rattle.std.specs.Prelude.{Vec}
use Rattle.std.specs.Global.{Global}
use Rattle.std.specs.List.{range_with_len}
use Rattle.std.proofs.lemmas.List.{map_push}
use Rattle.std.proofs.lemmas.List.FromFn.{map-range_with_len_more}
use Rattle.run_plan.specs.Plan.{count_of}
use Rattle.failure_report.specs.Reaching.{nodes_in}
use Rattle.redo.specs.Redone.{next_again}
use Rattle.redo.proofs.again.lists_of.Goals as goal

pub loop-node-preserved : goal.loop-node-preserved
loop-node-preserved c =
    let next = next_again c.args.plan.now c.args.only c.args.named.now in
    let n = c.loop-node.node in
    ap nodes_in c.in_ok-push.ensures.items
    ∙ map_push (λ (v : Vec ℕ Global). v.items) c.loop-node.lists.items c.in_ok-next_of.field-0
    ∙ (λ j. c.loop-node.invariant j ++ c.in_ok-next_of.ensures j ∷ [])
    ∙ sym (map-range_with_len_more next 0 n n (omega arith))

pub returns : goal.returns
returns c =
    let e = c.count-node-end.ensures.is in
    let f = c.loop-node.auto.node-end in
    let g = c.loop-node-test.false in
    let n : c.loop-node.node ≡ suc (count_of c.args.plan.now) = omega (arith, e, f, g) in
    c.loop-node.invariant ∙ ap (λ (k : ℕ). map (next_again c.args.plan.now c.args.only c.args.named.now) (range_with_len 0 k)) n
