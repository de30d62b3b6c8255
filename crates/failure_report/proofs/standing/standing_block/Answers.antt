use Rattle.std.proofs.Common.{◌≡◌, ap, sym, ◌∙◌, subst, arith}
use Rattle.run_plan.specs.Plan.{Plan, count_of, node_at}
use Rattle.failure_report.specs.Reported.{IsStandingBlock, is_no_other}
use Rattle.failure_report.proofs.Blocks.{name_and_words}
use Rattle.failure_report.proofs.standing.standing_block.Goals as goal

pub returns-then-node-count : goal.returns-then-node-count
returns-then-node-count g c =
    let same : count_of c.plan.result.now ≡ count_of c.args.run.now.core.now.plan = ap count_of c.plan.ensures in
    let is = c.count.ensures.is in
    subst (IsStandingBlock c.args.run.now.core.now.plan c.args.node) (sym c.new-text.ensures.bytes) (is_no_other (omega (arith, same, is, c.if-node-count.true)))

pub returns : goal.returns
returns g c =
    name_and_words c.args.run.now.core.now.plan c.args.node c.spec.result.now c.name-name.result.now _ _ _ _
    (c.spec.ensures.is ∙ ap (λ (p : Plan). node_at p c.args.node) c.plan-2.ensures) c.name-name.ensures c.new-text.ensures.bytes c.in_ok-write.ensures.bytes (rw c.as_str.ensures.value at c.in_ok-block.ensures)
