use Rattle.std.proofs.Common.{rules, subst, refl, ◌+◌, ◌<◌, ◌≡◌, length, get_or}
use Rattle.std.specs.List.{Contains}
use Rattle.ready_queue.proofs.Indexed.{less-indexed, node-of}
use Rattle.ready_queue.proofs.ReadyQueue.remove.Goals as goal

pub remove_node-requires-clause-there : goal.remove_node-requires-clause-there
remove_node-requires-clause-there c =
    c.self.invariant.has c.args.member.node (node-of c.self.inside.members.items c.args.member
    (subst (λ ms. Contains ms c.args.member) c.items-2.ensures (c.if-not-is_there.ensures.is.0 refl)))

long : (c : goal.After-remove_node) → length c.remove_node.new.nodes.items + 1 ≡ length c.self.inside.nodes.items
long c = search rules

pub invariant_of-self : goal.invariant_of-self
invariant_of-self c =
    let there = c.if-not-is_there.ensures.there refl in
    less-indexed c.self.inside.members.items c.remove.new.self.items c.self.inside.nodes.items c.remove_node.new.nodes.items c.args.member c.place_of-place.result
    c.self.invariant (subst (λ ms. c.place_of-place.result < length ms) c.items-2.ensures there.0)
    (subst (λ ms. get_or ms c.place_of-place.result c.args.member ≡ c.args.member) c.items-2.ensures there.1)
    c.remove.ensures.items c.remove_node.ensures.rising (long c) c.remove_node.ensures.nodes
