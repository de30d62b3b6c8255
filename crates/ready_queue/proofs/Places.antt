-- Places in a queue.
use Rattle.std.proofs.Common.{◌≡◌, ◌≢◌, ℕ, ◌<◌, ◌≤◌, inl, inr, Bool, true, false, List, length, get_or, refl, sym, ◌∙◌, subst, arith, Some}
use Rattle.std.specs.Prelude.{ℤ, ◌≤ℤ◌, int_lt, nat_lt, not, ◌&&◌, ◌||◌}
use Rattle.std.specs.List.{Contains, insert}
use Rattle.std.proofs.lemmas.Int.{ints, by_lt_z}
use Rattle.std.proofs.lemmas.Bool.{false≢true, lt-ltb, ltb-true}
use Rattle.std.proofs.lemmas.List.{get_or_default}
use Rattle.std.specs.List.Sorted.{IsPartitionPoint, IsPartitionedBy}
use Rattle.ready_queue.specs.declared.Member.{Member}
use Rattle.ready_queue.specs.Queue.{comes_before, ComesBefore, IsOrdered, IsPlaceOf, IsBest}
use Rattle.ready_queue.proofs.Edits.{by_lt, pairs-insert}

pub trans : (a b c : Member) → ComesBefore a b → ComesBefore b c → ComesBefore a c
trans a b c (inl x) (inl y) = inl (omega (arith, ints))
trans a b c (inl x) (inr y) = let e = y.0 in inl (omega (arith, ints))
trans a b c (inr x) (inl y) = let e = x.0 in inl (omega (arith, ints))
trans a b c (inr x) (inr y) = inr (x.0 ∙ y.0, (let l = x.1 in let m = y.1 in omega arith))

pub not-itself : (a : Member) → ComesBefore a a → ⊥
not-itself a (inl x) = omega (arith, ints)
not-itself a (inr x) = let l = x.1 in omega arith

pub same : (a b : Member) → a.node ≡ b.node → a.priority ≡ b.priority → a ≡ b
same a b n p = λ j. record { node = n j; priority = p j }

equal : (a b : ℤ) → a ≤ℤ b → b ≤ℤ a → a ≡ b
equal a b h k = omega (arith, ints)

-- of two members one comes before the other
pub either : (a b : Member) → (ComesBefore a b → ⊥) → a ≢ b → ComesBefore b a
either a b not_before ne =
    by_lt_z a.priority b.priority (λ lt. inl lt)
    (λ le. by_lt_z b.priority a.priority (λ lt. absurd (not_before (inl lt)))
    (λ ge.
    let p : a.priority ≡ b.priority = equal a.priority b.priority ge le in
    by_lt b.node a.node (λ lt. inr (sym p, lt))
    (λ le'. by_lt a.node b.node (λ lt. absurd (not_before (inr (p, lt)))) (λ ge'. absurd (ne (same a b (omega arith) p))))))

-- the test says so
pub is-before : (a b : Member) → ComesBefore a b → comes_before a b ≡ true
is-before a b before = by (int_lt b.priority a.priority) (int_lt a.priority b.priority) refl refl before
  where
    by : (more less : Bool) → int_lt b.priority a.priority ≡ more → int_lt a.priority b.priority ≡ less → ComesBefore a b
        → more || (not less && nat_lt a.node b.node) ≡ true
    by true less m l before = refl
    by false less m l (inl greater) = let wrong : ⊥ = omega (arith, ints) in absurd wrong
    by false true m l (inr alike) = let e = alike.0 in let wrong : ⊥ = omega (arith, ints) in absurd wrong
    by false false m l (inr alike) = lt-ltb a.node b.node alike.1

pub comes-before : (a b : Member) → comes_before a b ≡ true → ComesBefore a b
comes-before a b = by (int_lt b.priority a.priority) (int_lt a.priority b.priority) refl refl
  where
    by : (more less : Bool) → int_lt b.priority a.priority ≡ more → int_lt a.priority b.priority ≡ less
        → more || (not less && nat_lt a.node b.node) ≡ true → ComesBefore a b
    by true less m l is = inl (omega (arith, ints))
    by false true m l is = absurd (false≢true is)
    by false false m l is = inr (equal a.priority b.priority (omega (arith, ints)) (omega (arith, ints)), ltb-true a.node b.node is)

-- those that come before a member are the first in a queue
pub parted : (members : List Member) (member : Member) → IsOrdered members → IsPartitionedBy (λ other. comes_before other member) members
parted members member ordered i j d below within is =
    by_lt i j
    (λ less. is-before (get_or members i d) member (trans (get_or members i d) (get_or members j d) member (ordered i j d less within) (comes-before (get_or members j d) member is)))
    (λ more. let e : j ≡ i = omega arith in subst (λ k. comes_before (get_or members k d) member ≡ true) e is)

-- and where they end is the member's place
pub parts-at : (members : List Member) (member : Member) (place : ℕ) → place ≤ length members
    → IsPartitionPoint (λ other. comes_before other member ≡ true) (λ other. comes_before other member ≡ false) members place → IsPlaceOf members member place
parts-at members member place within parts = record {
  within = within;
  before = λ k d lt. comes-before (get_or members k d) member (parts.0 k d (omega arith) lt);
  behind = λ k d le lt before. false≢true (sym (parts.1 k d le lt) ∙ is-before (get_or members k d) member before);
}

-- a member is at its place and nowhere else
pub at-place : (members : List Member) (member : Member) (place : ℕ) → IsOrdered members → IsPlaceOf members member place
    → (k : ℕ) → k < length members → get_or members k member ≡ member → (place < length members) × (get_or members place member ≡ member)
at-place members member place ordered p k lt e =
    by_lt k place
    (λ less. absurd (not-itself member (subst (λ m. ComesBefore m member) e (p.before k member less))))
    (λ le. by_lt place k
    (λ less. absurd (p.behind place member (omega arith) (omega arith) (subst (ComesBefore (get_or members place member)) e (ordered place k member less lt))))
    (λ ge. let i : k ≡ place = omega arith in (omega arith, subst (λ n. get_or members n member ≡ member) i e)))

-- a member that is new goes to its place
pub insert-ordered : (members : List Member) (member : Member) (place : ℕ) (more : List Member) → IsOrdered members → IsPlaceOf members member place
    → (Contains members member → ⊥) → more ≡ insert members place member → IsOrdered more
insert-ordered members member place more ordered p absent e =
    subst IsOrdered (sym e) (pairs-insert ComesBefore members place member p.within ordered p.before
    (λ k d le lt. either (get_or members k d) member (p.behind k d le lt) (λ same_is. absent (k, lt, get_or_default members k member d lt ∙ same_is))))

-- the first that is allowed is the best
pub first-best : (answers : ℕ → Bool → Type 0) (members : List Member) (place : ℕ) (z : Member) → IsOrdered members → place < length members
    → ((k : ℕ) (d : Member) → k < place → answers (get_or members k d).node false) → answers (get_or members place z).node true
    → IsBest answers members (Some (get_or members place z))
first-best answers members place z ordered inside before allowed = (
  (place, inside, get_or_default members place _ z inside),
  allowed,
  λ other within b. by_lt within.0 place
      (λ lt. subst (λ m. answers m.node false) within.2 (before within.0 other lt))
      (λ ge. absurd (no other within b ge)),
)
  where
    no : (other : Member) (within : Contains members other) → ComesBefore other (get_or members place z) → place ≤ within.0 → ⊥
    no other within b ge =
        let here : get_or members place z ≡ get_or members place other = get_or_default members place z other inside in
        let that : ComesBefore (get_or members within.0 other) (get_or members place other) = subst (λ m. ComesBefore m (get_or members place other)) (sym within.2) (subst (ComesBefore other) here b) in
        by_lt place within.0
        (λ lt. not-itself (get_or members place other) (trans _ (get_or members within.0 other) _ (ordered place within.0 other lt within.1) that))
        (λ le. let s : within.0 ≡ place = omega arith in not-itself (get_or members place other) (subst (λ i. ComesBefore (get_or members i other) (get_or members place other)) s that))
