use Rattle.std.proofs.Common.{ap, ◌∙◌, map}
use Rattle.fault_list.proofs.Lines.{line-gone}
use Rattle.fault_list.proofs.emptying.without_line.Goals as goal

pub returns : goal.returns
returns c = c.pop.ensures.rest ∙ line-gone c.args.number c.args.text.now c.in_ok-copy.copy.items c.saturating_sub.result _ _ c.in_ok-copy.copy.ok.0 c.saturating_sub.ensures
    (ap (map (λ line. line.now)) c.as_slice.ensures.value ∙ c.in_ok-lines.ensures) c.in_ok-copy.ensures
