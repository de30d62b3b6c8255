use Rattle.std.proofs.Common.{rules, ◌≡◌, filter, not}
use Rattle.std.proofs.lemmas.Fn.{filter_same}
use Rattle.splices.specs.Acting.{is_for_all}
use Rattle.splices.proofs.ActingLines.{acting_kept}
use Rattle.splices.proofs.acting.without_idle.Goals as goal

pub returns-then-not-has_jobs : goal.returns-then-not-has_jobs
returns-then-not-has_jobs c =
    let cs = c.args.file.commands.items in
    let kept : c.retain.new.self.items ≡ filter (λ d. not (is_for_all d)) cs = filter_same _ _ _ (λ x b f' k. search rules) _ _ c.retain.ensures.filtered in
    acting_kept cs c.as_slice.result.now c.retain.new.self.items c.has_jobs.result c.as_slice.ensures.value c.has_jobs.ensures c.if-not-has_jobs.true kept
