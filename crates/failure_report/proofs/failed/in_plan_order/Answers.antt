use Rattle.std.proofs.Common.{◌≡◌, ◌+◌, ◌<◌, suc, None, Vec, length, refl, sym, ap, ◌∙◌, subst, arith}
use Rattle.std.specs.Global.{Global}
use Rattle.std.proofs.lemmas.List.{get_or_read}
use Rattle.run_plan.specs.Plan.{count_of}
use Rattle.failure_report.specs.declared.failed.Failure.{Failure}
use Rattle.failure_report.specs.Failures.{last_end, AreInPlanOrder}
use Rattle.failure_report.proofs.Listing.{skip, more}
use Rattle.failure_report.proofs.failed.in_plan_order.Goals.{then-is_in_error+in_ok-waiting+in_ok-push, else-is_in_error}
use Rattle.failure_report.proofs.failed.in_plan_order.Goals as goal

pub loop-node-preserved : goal.loop-node-preserved
loop-node-preserved c =
    let plan = c.args.core.now.plan in
    let past = c.args.core.now.past in
    let n = c.loop-node.node in
    let counted = c.count-node-end.ensures.is in
    let same : count_of c.plan.result.now ≡ count_of c.args.core.now.plan = ap count_of c.plan.ensures in
    let low : c.loop-node.node < suc (count_of c.args.core.now.plan) = omega (arith, counted, same, c.loop-node-test.true) in
    let many = c.in_ok-ends.ensures.many in
    let inside : c.loop-node.node < length c.in_ok-ends.ends.items = omega (arith, low, many) in
    elim c.if-is_in_error.branch [
      | then-is_in_error+in_ok-waiting+in_ok-push w ↦
          let failure : Failure = record { node = c.loop-node.node; end = w.index.result.now; waiting = w.in_ok-waiting.waiting } in
          let ended : w.index.result.now ≡ last_end c.args.core.now.past c.loop-node.node =
          get_or_read c.in_ok-ends.ends.items c.loop-node.node w.index.result.now inside w.index.ensures None ∙ c.in_ok-ends.ensures.each c.loop-node.node low in
          subst (λ (v : Vec Failure Global). AreInPlanOrder c.args.core.now.plan c.args.core.now.past (c.loop-node.node + 1) v.items) (sym w.found-is)
          (subst (AreInPlanOrder c.args.core.now.plan c.args.core.now.past (c.loop-node.node + 1)) (sym w.in_ok-push.ensures.items)
          (more c.args.core.now.plan c.args.core.now.past c.loop-node.node c.loop-node.found.items failure (sym c.is_in_error.ensures ∙ w.if-is_in_error.true) refl
          (record { ended = ended; waits = w.in_ok-waiting.ensures }) c.loop-node.invariant))
      | else-is_in_error w ↦
          subst (λ (v : Vec Failure Global). AreInPlanOrder c.args.core.now.plan c.args.core.now.past (c.loop-node.node + 1) v.items) (sym w.found-is)
          (skip c.args.core.now.plan c.args.core.now.past c.loop-node.node c.loop-node.found.items (sym c.is_in_error.ensures ∙ w.if-is_in_error.false) c.loop-node.invariant)
    ]
