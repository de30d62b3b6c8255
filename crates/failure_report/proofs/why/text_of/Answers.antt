use Rattle.std.proofs.Common.{subst, string_bytes, List}
use Rattle.std.proofs.lemmas.List.{get_or_default, take_all}
use Rattle.failure_report.specs.declared.why.Reported.{Reported}
use Rattle.failure_report.specs.Reported.{HasBlocks, front}
use Rattle.failure_report.proofs.Blocks.{blocks_more}
use Rattle.failure_report.proofs.why.text_of.Goals as goal

pub loop-one-init : goal.loop-one-init
loop-one-init g c = front (string_bytes c.in_ok-text.text)

pub loop-one-preserved : goal.loop-one-preserved
loop-one-preserved g c =
    blocks_more c.args.run.now.core.now.plan c.args.reported.now c.loop-one.one-index _ _ _ c.loop-one-test.true (get_or_default c.args.reported.now c.loop-one.one-index _ _ c.loop-one-test.true)
    c.loop-one.invariant c.in_ok-push_block.ensures

pub returns : goal.returns
returns g c =
    subst (λ (ts : List Reported). HasBlocks c.args.run.now.core.now.plan ts (string_bytes c.loop-one.text)) (take_all c.loop-one.one-index c.args.reported.now c.loop-one-test.false) c.loop-one.invariant
