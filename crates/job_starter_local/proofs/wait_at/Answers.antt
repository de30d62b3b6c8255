use Rattle.std.proofs.Common.{◌<◌, ap, length, rules, Some}
use Rattle.std.proofs.Math.Seq.{map-set_same}
use Rattle.std.proofs.lemmas.Result.{IfOk-weaker}
use Rattle.std.specs.Process.{child_status}
use Rattle.job_starter_local.proofs.Waited.{read-where-written}
use Rattle.job_starter_local.proofs.wait_at.Goals as goal

pub returns-clause-same : goal.returns-clause-same
returns-clause-same g c = map-set_same (λ child. child.key) c.args.children.now.items c.args.place _ c.index_mut.result.now (ap (λ child. child.key) c.index_mut.ensures.value)

pub returns-clause-kept : goal.returns-clause-kept
returns-clause-kept g c =
    let less : c.args.place < length c.args.children.now.items = search rules in
    IfOk-weaker c.wait.result _ _ (λ status kept. read-where-written (λ child. child_status child.child) c.args.children.now.items c.args.place _ (Some status) less kept)
    c.wait.ensures.kept
