use Rattle.std.proofs.Common.{◌≡◌, ◌+◌, ℕ, suc, List, ◌++◌, map, Bor, string_bytes, ap, ◌∙◌, arith}
use Rattle.run_plan.specs.Plan.{node_at}
use Rattle.status_report.specs.Text.{reported}
use Rattle.graph_text.specs.Names.{parts_of, splices_among}
use Rattle.graph_text.specs.Picture.{drawn_plan, states_of, node_lines, scope_before}
use Rattle.graph_text.proofs.Drawing.{nodes-more, nodes-closed}
use Rattle.graph_text.proofs.picture.push_nodes.Goals as goal

pub loop-node-preserved : goal.loop-node-preserved
loop-node-preserved c =
    let plan = drawn_plan c.args.drawn.now in
    let states = states_of c.args.drawn.now in
    let n = c.loop-node.node in
    let one : suc n ≡ n + 1 = omega arith in
    let named : c.name.result.now ≡ (node_at plan n).name = c.name.ensures ∙ (λ j. (c.spec.ensures.is j).name) ∙ (λ j. (node_at (c.plan-plan.ensures j) n).name) in
    let are : map (λ (part : Bor (List ℕ)). part.now) c.in_ok-parts.parts.items ≡ parts_of (node_at plan n).name = c.in_ok-parts.ensures ∙ ap parts_of named in
    let scope = ap splices_among (ap (map (λ (part : Bor (List ℕ)). part.now)) c.deref.ensures.value) ∙ c.loop-node.invariant.1 in
    let more = nodes-more plan states (string_bytes c.args.text.now) n _ _ _ _ c.loop-node.invariant.0 scope
    (ap (map (λ (part : Bor (List ℕ)). part.now)) c.deref-in-loop-node.ensures.value ∙ are) c.in_ok-push_next.ensures in (
      more ∙ ap (λ m. string_bytes c.args.text.now ++ node_lines plan states m) one,
      ap splices_among are ∙ ap (scope_before plan) one,
    )

pub returns : goal.returns
returns c =
    let plan = drawn_plan c.args.drawn.now in
    let states = states_of c.args.drawn.now in
    let n = c.loop-node.node in
    let end : n ≡ reported c.plan-plan.result.now =
    (let e = c.drawn_nodes-node-end.ensures.is in let f = c.loop-node.auto.node-end in let g = c.loop-node-test.false in omega (arith, e, f, g)) in
    nodes-closed plan states (string_bytes c.args.text.now) n _ _ _ _ c.loop-node.invariant.0 c.loop-node.invariant.1 (end ∙ ap reported c.plan-plan.ensures)
    (c.scope_in.ensures ∙ ap splices_among (ap (map (λ (part : Bor (List ℕ)). part.now)) c.deref-2.ensures.value)) c.in_ok-push_closings.ensures
