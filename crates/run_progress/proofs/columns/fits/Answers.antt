use Rattle.std.proofs.Common.{length, sym, ap, ◌∙◌, map-id, chars, arith}
use Rattle.std.proofs.lemmas.Bool.{lt-leb, le-leb}
use Rattle.std.proofs.lemmas.Iterator.{YieldsList-from_chars}
use Rattle.std.proofs.lemmas.Iterator.Consumers.{YieldsList-end, YieldsList-so_far, YieldsList-turn}
use Rattle.std.proofs.lemmas.List.Sums.{sum_by_more_le}
use Rattle.run_progress.specs.Columns.{columns, column_count}
use Rattle.run_progress.proofs.columns.fits.Goals as goal

pub returns-then-room-own : goal.returns-then-room-own
returns-then-room-own c =
    let road = YieldsList-from_chars c.args.text.now c.utf8.text cc in
    let front = YieldsList-so_far road c.loop-character.yielded _ c.loop-character.yielded_by in
    let turn = YieldsList-turn road c.loop-character.yielded _ c.loop-character.yielded_by _ _ c.in-Some.character c.in-Some.is c.next.ensures.steps in
    let more = sum_by_more_le column_count (chars c.args.text.now) (length c.loop-character.yielded) c.in-Some.character turn.0 in
    let so_far = ap columns (sym (map-id c.loop-character.yielded) ∙ front) in
    let own = ap column_count turn.1 in
    let here = c.column_count-own.ensures.is in
    sym (lt-leb (columns (chars c.args.text.now)) c.args.width (omega (arith, more, so_far, own, here, c.loop-character.invariant, c.if-room-own.true)))

pub returns : goal.returns
returns c =
    let road = YieldsList-from_chars c.args.text.now c.utf8.text cc in
    let end = YieldsList-end road c.loop-character.yielded _ c.loop-character.yielded_by _ _ c.in-None.is c.next.ensures.steps in
    let all = ap columns (sym (map-id c.loop-character.yielded) ∙ end.0) in
    sym (le-leb (columns (chars c.args.text.now)) c.args.width (omega (arith, all, c.loop-character.invariant)))
