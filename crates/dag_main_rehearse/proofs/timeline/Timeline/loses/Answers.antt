use Rattle.std.proofs.Common.{rules, not, ap, ◌∙◌, reverse}
use Rattle.std.proofs.lemmas.Fn.{filter_same}
use Rattle.sched_core.specs.Run.{is_same}
use Rattle.dag_main_rehearse.specs.declared.timeline.Child.{Child}
use Rattle.dag_main_rehearse.proofs.Times.{kept-reverse}
use Rattle.dag_main_rehearse.proofs.timeline.Timeline.loses.Goals as goal

pub returns : goal.returns
returns c =
    let kept = filter_same _ (λ (child : Child). not (is_same c.args.key.now child.key)) _ (λ x b f' k. search rules) _ _ c.retain.ensures.filtered in
    let children = ap reverse kept ∙ kept-reverse (λ (child : Child). not (is_same c.args.key.now child.key)) c.args.self.now.children.items in
    λ j. record { clock = c.args.self.now.clock; children = children j }
