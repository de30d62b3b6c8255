use Rattle.std.proofs.Common.{drop, arith, sym, ◌∙◌}
use Rattle.graph_text.proofs.Sharing.{texts, shared-more, shared-stop, shared-end}
use Rattle.graph_text.proofs.clusters.shared.Goals as goal

pub loop-count-preserved : goal.loop-count-preserved
loop-count-preserved c =
    let inv = c.loop-count.invariant in
    let step = shared-more c.args.before.now c.args.scope.now c.loop-count.count _ c.loop-count-test.true c.if-count-scope.true (sym c.eq.ensures ∙ c.if-eq.true) in
    (omega (arith, c.loop-count-test.true), omega (arith, c.if-count-scope.true), omega (arith, inv.2, step))

pub returns-else-eq-clause-is : goal.returns-else-eq-clause-is
returns-else-eq-clause-is c =
    let stop = shared-stop c.args.before.now c.args.scope.now c.loop-count.count _ c.loop-count-test.true c.if-count-scope.true (sym c.eq.ensures ∙ c.if-eq.false) in
    omega (arith, c.loop-count.invariant.2, stop)

pub returns-else-count-scope-clause-is : goal.returns-else-count-scope-clause-is
returns-else-count-scope-clause-is c =
    let stop = shared-end (drop c.loop-count.count (texts c.args.before.now)) c.args.scope.now c.loop-count.count c.if-count-scope.false in
    omega (arith, c.loop-count.invariant.2, stop)
