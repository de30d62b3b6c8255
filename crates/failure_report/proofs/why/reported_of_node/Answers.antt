use Rattle.std.proofs.Common.{◌≡◌, ◌≤◌, ap, refl, arith}
use Rattle.run_plan.specs.Plan.{count_of}
use Rattle.failure_report.specs.Named.{is_failed, is_standing}
use Rattle.failure_report.proofs.why.reported_of_node.Goals as goal

pub returns-then-node-count : goal.returns-then-node-count
returns-then-node-count c =
    let same : count_of c.plan.result.now ≡ count_of c.args.core.now.plan = ap count_of c.plan.ensures in
    is_standing (λ low. absurd (omega (arith, same, c.count.ensures.is, c.if-node-count.true)))

pub returns-then-not-is_in_error : goal.returns-then-not-is_in_error
returns-then-not-is_in_error c = is_standing (λ low. let is = c.is_in_error.ensures in let no-error = c.if-not-is_in_error.true in cc)

pub returns : goal.returns
returns c =
    let same : count_of c.plan.result.now ≡ count_of c.args.core.now.plan = ap count_of c.plan.ensures in
    let low : c.args.node ≤ count_of c.args.core.now.plan = omega (arith, same, c.count.ensures.is, c.if-node-count.false) in
    is_failed _ refl low (let is = c.is_in_error.ensures in let stuck = c.if-not-is_in_error.false in cc) (record { ended = c.requires.ends.each c.args.node (omega arith); waits = c.in_ok-waiting.ensures })
