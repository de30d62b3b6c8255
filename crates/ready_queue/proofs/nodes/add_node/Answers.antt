use Rattle.std.proofs.Common.{subst, ◌≡◌, ◌≤◌, length, sym, ◌∙◌, ap}
use Rattle.std.specs.List.{insert}
use Rattle.ready_queue.specs.Queue.{AreRising}
use Rattle.ready_queue.proofs.Indexed.{still-rising, with-node}
use Rattle.ready_queue.proofs.nodes.add_node.Goals as goal

-- the nodes with this one, as those that were borrowed
is-insert : (c : goal.After-insert) → c.insert.new.self.items ≡ insert c.items.result.now c.in-Err.place c.args.node
is-insert c = c.insert.ensures.items ∙ ap (λ nodes. insert nodes c.in-Err.place c.args.node) (sym c.items.ensures)

pub returns-in-Err-clause-rising : goal.returns-in-Err-clause-rising
returns-in-Err-clause-rising c =
    let gap = c.in-Err.ensures in
    still-rising c.items.result.now c.insert.new.self.items c.args.node c.in-Err.place (subst AreRising (sym c.items.ensures) c.requires.rising) gap.0 gap.1 gap.2 (is-insert c)

pub returns-in-Err-clause-nodes : goal.returns-in-Err-clause-nodes
returns-in-Err-clause-nodes c =
    with-node c.args.nodes.now.items c.insert.new.self.items c.args.node c.in-Err.place
    (subst (λ nodes. c.in-Err.place ≤ length nodes) c.items.ensures (c.in-Err.ensures).0) c.insert.ensures.items
