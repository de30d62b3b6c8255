use Rattle.std.proofs.Common.{rules, ◌≡◌, ◌+◌, length, subst, sym, refl}
use Rattle.std.specs.List.{Contains}
use Rattle.std.proofs.lemmas.Bool.{false≢true}
use Rattle.ready_queue.specs.Queue.{Queue, IsPlaceOf, nodes_of}
use Rattle.ready_queue.proofs.Indexed.{more-indexed}
use Rattle.ready_queue.proofs.ReadyQueue.add.Goals as goal

pub returns-then-has_node-clause-refused : goal.returns-then-has_node-clause-refused
returns-then-has_node-clause-refused c = (
  λ t. absurd (false≢true t),
  λ absent. absurd (absent (subst (λ (q : Queue). Contains (nodes_of q.members) c.args.member.node) c.self.view_is
      (c.self.invariant.only c.args.member.node (subst (λ nodes. Contains nodes c.args.member.node) c.items.ensures (c.if-has_node.ensures.0 refl))))),
)

absent : (c : goal.After-add_node) → Contains c.self.inside.nodes.items c.args.member.node → ⊥
absent c has = false≢true (c.if-has_node.ensures.1 (subst (λ nodes. Contains nodes c.args.member.node) (sym c.items.ensures) has))

long : (c : goal.After-add_node) → length c.add_node.new.nodes.items ≡ length c.self.inside.nodes.items + 1
long c = search rules

pub invariant_of-self : goal.invariant_of-self
invariant_of-self c =
    more-indexed c.self.inside.members.items c.insert.new.self.items c.self.inside.nodes.items c.add_node.new.nodes.items c.args.member c.place_of-place.result
    c.self.invariant (subst (λ ms. IsPlaceOf ms c.args.member c.place_of-place.result) c.items-2.ensures c.place_of-place.ensures) (absent c)
    c.insert.ensures.items c.add_node.ensures.rising (long c) c.add_node.ensures.nodes

pub returns-clause-refused : goal.returns-clause-refused
returns-clause-refused c = (
  λ t has. absent c (c.self.invariant.has c.args.member.node (subst (λ (q : Queue). Contains (nodes_of q.members) c.args.member.node) (sym c.self.view_is) has)),
  λ a. refl,
)
