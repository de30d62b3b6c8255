use Rattle.std.proofs.Common.{rules, ◌≡◌, ◌+◌, ◌∙◌, ap, drop}
use Rattle.std.specs.List.{insert}
use Rattle.ready_queue.proofs.Gaps.{drop-insert}
use Rattle.ready_queue.proofs.row.Row.insert.Goals as goal

inserted : (g : _) (c : goal.After-insert g) → c.insert.new.self.items ≡ insert c.make_room-self-inside.new.all.items (c.make_room-self-inside.result + c.args.place) c.args.item
inserted g c = search rules

pub returns-clause-items : goal.returns-clause-items
returns-clause-items g c =
    let all = c.make_room-self-inside.new.all.items in
    let gap = c.make_room-self-inside.result in
    ap (drop gap) (inserted g c) ∙ drop-insert all gap c.args.place c.args.item (search rules)
    ∙ ap (λ xs. insert xs c.args.place c.args.item) (c.make_room-self-inside.ensures.items ∙ ap (λ r. r.items) c.self.view_is)
