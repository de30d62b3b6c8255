use Rattle.std.proofs.lemmas.List.{get_or_default}
use Rattle.failure_report.proofs.Gathering.{groups-more, groups-all, no-groups}
use Rattle.failure_report.proofs.groups.groups_of.Goals as goal

pub loop-failure-init : goal.loop-failure-init
loop-failure-init g c = no-groups _ c.new-groups.ensures.items

pub loop-failure-preserved : goal.loop-failure-preserved
loop-failure-preserved g c =
    groups-more c.args.failures.now c.loop-failure.failure-index _ c.loop-failure.groups.items _ c.loop-failure-test.true (get_or_default c.args.failures.now c.loop-failure.failure-index _ _ c.loop-failure-test.true)
    c.requires c.loop-failure.invariant c.in_ok-add_failure.ensures

pub returns : goal.returns
returns g c = groups-all c.args.failures.now c.loop-failure.failure-index c.loop-failure.groups.items c.loop-failure-test.false c.loop-failure.invariant
