use Rattle.std.proofs.Common.{◌≡◌, ◌<◌, ap, sym, ◌∙◌, subst, drop, length, arith}
use Rattle.std.specs.List.{remove}
use Rattle.std.proofs.lemmas.List.{drop-drop, length-drop}
use Rattle.ready_queue.proofs.Gaps.{drop-remove}
use Rattle.ready_queue.proofs.row.Row.remove.Goals as goal

pub returns-then-place-eq0-clause-items : goal.returns-then-place-eq0-clause-items
returns-then-place-eq0-clause-items g c = rw (← c.self.view_is, c.if-place-eq0.true) (sym (drop-drop 1 c.self.inside.gap c.self.inside.all.items))

pub returns-else-place-eq0-clause-items : goal.returns-else-place-eq0-clause-items
returns-else-place-eq0-clause-items g c =
    let all = c.self.inside.all.items in
    let gap = c.self.inside.gap in
    let shown : drop gap all ≡ c.args.self.now.items = ap (λ r. r.items) c.self.view_is in
    let few = subst (λ xs. c.args.place < length xs) (sym shown) c.requires in
    let long = length-drop gap all in
    ap (drop gap) c.remove.ensures.items ∙ drop-remove all gap c.args.place (omega (arith, few, long)) ∙ ap (λ xs. remove xs c.args.place) shown
