use Rattle.std.proofs.Common.{ap, ◌∙◌}
use Rattle.std.proofs.Math.Seq.{map-set_same}
use Rattle.job_starter_local.proofs.look_at.Goals as goal

pub returns-clause-same : goal.returns-clause-same
returns-clause-same g c = map-set_same (λ child. child.key) c.args.children.now.items c.args.place c.look.new.self c.index_mut.result.now (c.look.ensures ∙ ap (λ child. child.key) c.index_mut.ensures.value)
