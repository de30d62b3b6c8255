use Rattle.std.proofs.Common.{arith}
use Rattle.failure_report.proofs.Listed.{line-in-parts}
use Rattle.failure_report.proofs.same.push_same.Goals as goal

pub returns : goal.returns
returns c =
    line-in-parts c.args.plan.now c.args.same.now _ _ _ _ _ _ _ _ (omega arith) (omega arith) c.min.ensures c.saturating_sub.ensures
    c.in_ok-push_front.ensures c.in_ok-push_listed.ensures c.in_ok-push_more.ensures c.in_ok-push_str.ensures.bytes
