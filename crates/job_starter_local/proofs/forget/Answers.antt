use Rattle.std.proofs.Common.{rules, not, map, reverse, ◌∙◌, ap}
use Rattle.std.proofs.lemmas.Fn.{filter_same}
use Rattle.sched_core.specs.Run.{is_same}
use Rattle.job_starter_drive.proofs.Running.{keys-without}
use Rattle.job_starter_local.proofs.forget.Goals as goal

pub returns : goal.returns
returns g c =
    let kept = filter_same _ (λ child. not (is_same c.args.key.now child.key)) _ (λ x b f' k. search rules) _ _ c.retain.ensures.filtered in
    ap (λ l. reverse (map (λ child. child.key) l)) kept ∙ keys-without (λ child. child.key) c.args.key.now c.args.children.now.items
