-- The nodes of a queue's members, in plan order.
use Rattle.std.proofs.Common.{◌≡◌, ◌≢◌, ℕ, ◌+◌, ◌<◌, ◌≤◌, ◌⊎◌, ◌↔◌, inl, inr, ⊎_elim, List, length, get_or, sym, ap, ◌∙◌, subst, arith}
use Rattle.std.specs.Prelude.{pos}
use Rattle.std.specs.List.{Contains, insert, remove}
use Rattle.std.proofs.lemmas.List.{get_or_default, get_or-map, length-map}
use Rattle.std.proofs.lemmas.List.Edits.{length-insert, length-remove}
use Rattle.std.proofs.lemmas.List.Quantifiers.{all_pairs_remove}
use Rattle.ready_queue.specs.declared.Member.{Member}
use Rattle.ready_queue.specs.Queue.{nodes_of, ComesBefore, IsOrdered, AreApart, AreRising, IsPlaceOf, IsIndexed}
use Rattle.ready_queue.proofs.Edits.{by_lt, kept-insert, new-insert, insert-cases, kept-remove, from-remove, pairs-insert, pairs-removed}
use Rattle.ready_queue.proofs.Places.{insert-ordered}

-- numbers that rise never fall
pub never-falls : (nodes : List ℕ) → AreRising nodes → (i j : ℕ) → i ≤ j → j < length nodes → get_or nodes i 0 ≤ get_or nodes j 0
never-falls nodes rising i j le lt = by_lt i j
    (λ less. let r = rising i j 0 less lt in omega (arith, r))
    (λ more. let s : j ≡ i = omega (arith, le, more) in subst (λ k. get_or nodes i 0 ≤ get_or nodes k 0) (sym s) (omega arith))

-- what is none of these
pub is-gap : (nodes : List ℕ) (node place : ℕ) → ((k : ℕ) → k < place → get_or nodes k 0 < node)
    → ((k : ℕ) → place ≤ k → k < length nodes → node < get_or nodes k 0) → Contains nodes node → ⊥
is-gap nodes node place below above has =
    let here : get_or nodes has.0 0 ≡ node = get_or_default nodes has.0 0 node has.1 ∙ has.2 in
    by_lt has.0 place
    (λ lt. let b = below has.0 lt in omega (arith, b, here))
    (λ ge. let a = above has.0 ge has.1 in omega (arith, a, here))

-- with one that has its place among them
pub still-rising : (nodes more : List ℕ) (node place : ℕ) → AreRising nodes → place ≤ length nodes → ((k : ℕ) → k < place → get_or nodes k 0 < node)
    → ((k : ℕ) → place ≤ k → k < length nodes → node < get_or nodes k 0) → more ≡ insert nodes place node → AreRising more
still-rising nodes more node place rising within below above is =
    subst AreRising (sym is) (pairs-insert (λ a b. a < b) nodes place node within rising
    (λ k d lt. subst (λ other. other < node) (get_or_default nodes k 0 d (omega (arith, lt, within))) (below k lt))
    (λ k d le lt. subst (λ other. node < other) (get_or_default nodes k 0 d lt) (above k le lt)))

pub with-node : (nodes more : List ℕ) (node place : ℕ) → place ≤ length nodes → more ≡ insert nodes place node
    → (other : ℕ) → Contains more other ↔ ((node ≡ other) ⊎ Contains nodes other)
with-node nodes more node place within is other = (
  λ has. insert-cases nodes place node within other (subst (λ xs. Contains xs other) is has),
  λ either. subst (λ xs. Contains xs other) (sym is)
      (⊎_elim (λ same. subst (Contains (insert nodes place node)) same (new-insert nodes place node within)) (λ has. kept-insert nodes place node within other has) either),
)

pub without-node : (nodes less : List ℕ) (node place : ℕ) → AreRising nodes → place < length nodes → get_or nodes place 0 ≡ node → less ≡ remove nodes place
    → (other : ℕ) → Contains less other ↔ ((node ≢ other) × Contains nodes other)
without-node nodes less node place rising inside here is other = (
  λ has. let left = subst (λ xs. Contains xs other) is has in (
    λ same. ⊎_elim (λ lt. omega (arith, lt, same)) (λ lt. omega (arith, lt, same))
        (pairs-removed (λ a b. a < b) nodes place node inside stands rising other left),
    from-remove nodes place inside other left,
  ),
  λ both. subst (λ xs. Contains xs other) (sym is) (kept-remove nodes place node inside stands other both.1 both.0),
)
  where
    stands : get_or nodes place node ≡ node
    stands = get_or_default nodes place node 0 inside ∙ here

-- a member's node is one of the nodes, and each of these is a member's
pub node-of : (members : List Member) (member : Member) → Contains members member → Contains (nodes_of members) member.node
node-of members member has = (
  has.0,
  subst (λ n. has.0 < n) (sym (length-map members (λ (m : Member). m.node))) has.1,
  get_or-map (λ (m : Member). m.node) members has.0 member member.node has.1 ∙ ap (λ (m : Member). m.node) has.2,
)

pub member-of : (members : List Member) (node : ℕ) → Contains (nodes_of members) node → (member : Member) × Contains members member × (member.node ≡ node)
member-of members node has =
    let z : Member = record { node = node; priority = pos 0 } in
    let lt = subst (λ n. has.0 < n) (length-map members (λ (m : Member). m.node)) has.1 in
    (get_or members has.0 z, (has.0, lt, get_or_default members has.0 _ z lt), sym (get_or-map (λ (m : Member). m.node) members has.0 z node lt) ∙ has.2)

-- a queue with a node more
pub more-indexed : (members more : List Member) (nodes nodes' : List ℕ) (member : Member) (place : ℕ) → IsIndexed members nodes → IsPlaceOf members member place
    → (Contains nodes member.node → ⊥) → more ≡ insert members place member → AreRising nodes' → length nodes' ≡ length nodes + 1
    → ((other : ℕ) → Contains nodes' other ↔ ((member.node ≡ other) ⊎ Contains nodes other)) → IsIndexed more nodes'
more-indexed members more nodes nodes' member place was is-place absent is rising long each = record {
  ordered = insert-ordered members member place more was.ordered is-place (λ has. absent (was.has member.node (node-of members member has))) is;
  apart = subst AreApart (sym is) (pairs-insert (λ (a b : Member). a.node ≢ b.node) members place member within was.apart
      (λ k d lt same. other-node k d (omega (arith, lt, within)) same) (λ k d ge lt same. other-node k d lt (sym same)));
  rising = rising;
  many = let n = length-insert members place member within in let s = ap (λ (ms : List Member). length ms) is in let m = was.many in omega (arith, n, s, m, long);
  has = λ node has.
      let found = member-of more node has in
      (each node).1 (⊎_elim (λ same. inl (ap (λ (m : Member). m.node) same ∙ found.2))
      (λ old. inr (was.has node (subst (Contains (nodes_of members)) found.2 (node-of members found.0 old))))
      (insert-cases members place member within found.0 (subst (λ ms. Contains ms found.0) is found.1)));
  only = λ node has. subst (λ ms. Contains (nodes_of ms) node) (sym is)
      (⊎_elim (λ same. subst (Contains (nodes_of (insert members place member))) same (node-of (insert members place member) member (new-insert members place member within)))
      (λ old.
      let found = member-of members node (was.only node old) in
      subst (Contains (nodes_of (insert members place member))) found.2
      (node-of (insert members place member) found.0 (kept-insert members place member within found.0 found.1)))
      ((each node).0 has));
}
  where
    within : place ≤ length members
    within = is-place.within

    other-node : (k : ℕ) (d : Member) → k < length members → (get_or members k d).node ≡ member.node → ⊥
    other-node k d lt same = absent (was.has member.node
        (subst (Contains (nodes_of members)) same (node-of members (get_or members k d) (k, lt, get_or_default members k (get_or members k d) d lt))))

-- and with one less
pub less-indexed : (members less : List Member) (nodes nodes' : List ℕ) (member : Member) (place : ℕ) → IsIndexed members nodes → place < length members
    → get_or members place member ≡ member → less ≡ remove members place → AreRising nodes' → length nodes' + 1 ≡ length nodes
    → ((other : ℕ) → Contains nodes' other ↔ ((member.node ≢ other) × Contains nodes other)) → IsIndexed less nodes'
less-indexed members less nodes nodes' member place was inside here is rising long each = record {
  ordered = subst IsOrdered (sym is) (all_pairs_remove ComesBefore members place inside was.ordered);
  apart = subst AreApart (sym is) (all_pairs_remove (λ (a b : Member). a.node ≢ b.node) members place inside was.apart);
  rising = rising;
  many = let n = length-remove members place inside in let s = ap (λ (ms : List Member). length ms) is in let m = was.many in omega (arith, n, s, m, long);
  has = λ node has.
      let found = member-of less node has in
      let left = subst (λ ms. Contains ms found.0) is found.1 in
      (each node).1 (
        λ same. ⊎_elim (λ differs. differs (found.2 ∙ sym same)) (λ differs. differs (same ∙ sym found.2))
            (pairs-removed (λ (a b : Member). a.node ≢ b.node) members place member inside here was.apart found.0 left),
        was.has node (subst (Contains (nodes_of members)) found.2 (node-of members found.0 (from-remove members place inside found.0 left))),
      );
  only = λ node has.
      let both = (each node).0 has in
      let found = member-of members node (was.only node both.1) in
      subst (λ ms. Contains (nodes_of ms) node) (sym is)
      (subst (Contains (nodes_of (remove members place))) found.2
      (node-of (remove members place) found.0
      (kept-remove members place member inside here found.0 found.1 (λ same. both.0 (ap (λ (m : Member). m.node) same ∙ found.2)))));
}
