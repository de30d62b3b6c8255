use Rattle.std.proofs.Common.{◌++◌, flat_map, string_bytes, sym, ap, ◌∙◌, map-id}
use Rattle.std.proofs.lemmas.Iterator.{YieldsList-from_chars}
use Rattle.std.proofs.lemmas.Iterator.Consumers.{YieldsList-end}
use Rattle.report_page.specs.Escaped.{escaped_character, escaped_text}
use Rattle.report_page.proofs.escaped.push_escaped.Goals as goal

pub returns : goal.returns
unfolding escaped_text
returns c =
    let end = YieldsList-end (YieldsList-from_chars c.args.shown.now c.utf8.shown cc) c.loop-character.yielded _ c.loop-character.yielded_by _ _ c.in-None.is c.next.ensures.steps in
    c.loop-character.invariant ∙ ap (λ cs. string_bytes c.args.text.now ++ flat_map escaped_character cs) (sym (map-id c.loop-character.yielded) ∙ end.0)
