use Rattle.std.proofs.Common.{◌++◌, flat_map, codes, sym, ap, ◌∙◌, map-id}
use Rattle.std.specs.Char.{encode_utf8}
use Rattle.std.proofs.lemmas.Iterator.{YieldsList-from_chars, YieldsList-from_take}
use Rattle.std.proofs.lemmas.Iterator.Consumers.{YieldsList-end}
use Rattle.run_progress.proofs.line.cut_text.Goals as goal

pub returns : goal.returns
returns c =
    let road = YieldsList-from_take _ (YieldsList-from_chars c.args.text.now c.utf8.text cc) cc in
    let end = YieldsList-end road c.loop-character.yielded _ c.loop-character.yielded_by _ _ c.in-None.is c.next.ensures.steps in
    c.in_ok-push_str.ensures.bytes ∙ ap (λ cut. cut ++ codes "..") (c.loop-character.invariant ∙ ap (flat_map encode_utf8) (sym (map-id c.loop-character.yielded) ∙ end.0))
