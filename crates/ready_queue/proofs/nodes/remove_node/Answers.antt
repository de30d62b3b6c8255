use Rattle.std.proofs.Common.{◌<◌, ◌≡◌, length, get_or, subst, sym}
use Rattle.std.specs.List.{Contains}
use Rattle.std.proofs.lemmas.List.Quantifiers.{all_pairs_remove}
use Rattle.ready_queue.specs.Queue.{AreRising}
use Rattle.ready_queue.proofs.Indexed.{is-gap, without-node}
use Rattle.ready_queue.proofs.nodes.remove_node.Goals as goal

inside : (c : goal.After-remove) → c.in-Ok.place < length c.args.nodes.now.items
inside c = subst (λ nodes. c.in-Ok.place < length nodes) c.items.ensures (c.in-Ok.ensures).0

pub returns-in-Ok-clause-rising : goal.returns-in-Ok-clause-rising
returns-in-Ok-clause-rising c =
    subst AreRising (sym c.remove.ensures.items) (all_pairs_remove (λ a b. a < b) c.args.nodes.now.items c.in-Ok.place (inside c) c.requires.rising)

pub returns-in-Ok-clause-nodes : goal.returns-in-Ok-clause-nodes
returns-in-Ok-clause-nodes c =
    without-node c.args.nodes.now.items c.remove.new.self.items c.args.node c.in-Ok.place c.requires.rising (inside c)
    (subst (λ nodes. get_or nodes c.in-Ok.place 0 ≡ c.args.node) c.items.ensures (c.in-Ok.ensures).1) c.remove.ensures.items

never : (c : goal.In-Err) → ⊥
never c =
    let gap = c.in-Err.ensures in
    is-gap c.items.result.now c.args.node c.in-Err.field-0 gap.1 gap.2 (subst (λ nodes. Contains nodes c.args.node) (sym c.items.ensures) c.requires.there)

pub returns-in-Err-clause-nodes : goal.returns-in-Err-clause-nodes
returns-in-Err-clause-nodes c = absurd (never c)

pub returns-in-Err-clause-len : goal.returns-in-Err-clause-len
returns-in-Err-clause-len c = absurd (never c)
