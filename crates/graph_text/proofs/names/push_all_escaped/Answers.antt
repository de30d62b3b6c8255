use Rattle.std.proofs.Common.{◌++◌, flat_map, string_bytes, sym, ap, ◌∙◌, map-id}
use Rattle.std.proofs.lemmas.Iterator.{YieldsList-from_chars}
use Rattle.std.proofs.lemmas.Iterator.Consumers.{YieldsList-end}
use Rattle.graph_text.specs.Names.{escaped_label}
use Rattle.graph_text.proofs.names.push_all_escaped.Goals as goal

pub returns : goal.returns
returns c =
    let end = YieldsList-end (YieldsList-from_chars c.args.name.now c.utf8.name cc) c.loop-character.yielded _ c.loop-character.yielded_by _ _ c.in-None.is c.next.ensures.steps in
    c.loop-character.invariant ∙ ap (λ cs. string_bytes c.args.text.now ++ flat_map escaped_label cs) (sym (map-id c.loop-character.yielded) ∙ end.0)
