use Rattle.std.proofs.Common.{subst, string_bytes, List}
use Rattle.std.proofs.lemmas.List.{take_all}
use Rattle.failure_report.specs.declared.groups.Group.{Group}
use Rattle.failure_report.specs.Grouped.{HasGroups, no_group}
use Rattle.failure_report.proofs.Blocks.{groups_more}
use Rattle.failure_report.proofs.why.text_of_groups.Goals as goal

pub loop-group-init : goal.loop-group-init
loop-group-init g c = no_group (string_bytes c.args.front)

pub loop-group-preserved : goal.loop-group-preserved
loop-group-preserved g c =
    groups_more c.args.run.now.core.now.plan c.args.groups.now c.loop-group.group-index _ _ _ c.loop-group-test.true c.group-item.is
    c.loop-group.invariant c.in_ok-push_group.ensures

pub returns : goal.returns
returns g c =
    subst (λ (gs : List Group). HasGroups c.args.run.now.core.now.plan gs (string_bytes c.loop-group.text)) (take_all c.loop-group.group-index c.args.groups.now c.loop-group-test.false) c.loop-group.invariant
