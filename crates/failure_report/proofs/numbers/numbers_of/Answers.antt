use Rattle.std.proofs.Common.{sym, ◌∙◌}
use Rattle.failure_report.proofs.Naming.{numbers-more, numbers-all, first-unknown}
use Rattle.failure_report.proofs.numbers.numbers_of.Goals as goal

pub loop-name-preserved : goal.loop-name-preserved
loop-name-preserved c =
    numbers-more c.args.plan.now c.graph.result.now c.args.names.now c.loop-name.name-index _ c.loop-name.numbers.items _ c.in-Some.number c.graph.ensures.is c.loop-name-test.true
    c.loop-name.invariant (sym c.node_named.ensures ∙ c.in-Some.is) c.in_ok-push-in-Some.ensures.items

pub returns : goal.returns
returns c = numbers-all c.args.plan.now c.args.names.now c.loop-name.name-index c.loop-name.numbers.items c.loop-name-test.false c.loop-name.invariant

pub returns-in-None : goal.returns-in-None
returns-in-None c =
    first-unknown c.args.plan.now c.graph.result.now c.args.top.now c.args.names.now c.loop-name.name-index _ c.loop-name.numbers.items _ c.graph.ensures.is c.loop-name-test.true
    c.loop-name.invariant (sym c.node_named.ensures ∙ c.in-None.is) c.in_ok-unknown-in-None.ensures
