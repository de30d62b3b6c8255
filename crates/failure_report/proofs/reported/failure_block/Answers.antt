use Rattle.std.proofs.Common.{◌≡◌, sym, ap, ◌∙◌, subst, arith}
use Rattle.run_plan.specs.Plan.{Plan, count_of, node_at}
use Rattle.failure_report.specs.Reported.{IsFailureBlock, has_no_end, is_no_node}
use Rattle.failure_report.proofs.Blocks.{line_and_more}
use Rattle.failure_report.proofs.reported.failure_block.Goals as goal

pub returns-in_default : goal.returns-in_default
returns-in_default g c =
    subst (IsFailureBlock c.args.run.now.core.now.plan c.args.failure.now) (sym c.new-text.ensures.bytes) (has_no_end c.in_default.is)

pub returns-then-node-count : goal.returns-then-node-count
returns-then-node-count g c =
    let same : count_of c.plan-plan.result.now ≡ count_of c.args.run.now.core.now.plan = ap count_of c.plan-plan.ensures in
    let is = c.count.ensures.is in
    subst (IsFailureBlock c.args.run.now.core.now.plan c.args.failure.now) (sym c.new-text.ensures.bytes) (is_no_node (omega (arith, same, is, c.if-node-count.true)))

pub returns : goal.returns
returns g c =
    line_and_more c.args.run.now.core.now.plan c.args.failure.now c.in-Some.end _ c.spec-spec.result.now c.name.result.now c.course.result.now.retries _ _ _ _ _
    c.in-Some.is (c.spec-spec.ensures.is ∙ ap (λ (p : Plan). node_at p c.args.failure.now.node) c.plan-plan.ensures) c.name.ensures (ap (λ r. r.retries) c.course.ensures) c.new-text.ensures.bytes
    c.in_ok-push_head.ensures c.in_ok-push_str.ensures.bytes (rw c.as_str-2.ensures.value at c.in_ok-block.ensures)
